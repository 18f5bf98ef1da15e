-- The test holds exactly of the words that some calls leave.
use Rattle.std.specs.Prelude.{ℕ, ◌+◌, ◌%◌, ◌≤◌, ◌<◌, Bool, true, false, ◌&&◌, cond, List, [], ◌≡◌, refl, length, get_or, ltb, eqb}
use Rattle.std.proofs.Common.{true≢false, sym, ap, ◌∙◌, arith, ltb-true, ltb-false, lt-ltb, le-ltb, eq-eqb}
use Rattle.lists.specs.Test.{decide}
use Rattle.lists.specs.Table.{table, length-table, table_at}
use Rattle.model_settings.specs.declared.Content.{Content}
use Rattle.model_settings.specs.Store.{State, versions, blank, fresh_content, in_range, good_chance, Call}
use Rattle.model_settings.specs.Words.{slot_at, version_of, same_content, good_slot, valid, fresh_words}
use Rattle.settings_store.specs.Tests.{same_content_lem, slot-made, valid-long, valid-version, valid-slot}
use Rattle.settings_laws.specs.Sound.{GoodList, Sound, HoldsList, Holds}
use Rattle.settings_laws.specs.Agree.{holds-valid}
use Rattle.model_settings.specs.Calls.{words_after_all}
use Rattle.settings_laws.specs.Sequences.{sequence-words}

-- calls leave words that pass the test
pub left-valid : (w : List ℕ) → 544 ≤ length w → (cs : List Call) → valid (words_after_all cs (fresh_words w)) ≡ true
left-valid w h cs = let t = sequence-words w h cs in holds-valid t.sound t.holds

-- what the test says of a slot
slot_cases :
    (v : ℕ) (c : Content) (k : ℕ) → good_slot v c k ≡ true → (v < k → c ≡ blank) × (k ≡ 0 → v < 8 → c ≡ fresh_content)
unfolding good_slot
slot_cases v c k h = (
  λ l. blanks (ltb v k) (lt-ltb v k l) h,
  λ z l. first (ltb v k) (le-ltb v k (omega arith)) (eqb k 0)
      (eq-eqb k 0 z) (ltb v 8) (lt-ltb v 8 l) h,
)
  where
    blanks :
        (a : Bool) → a ≡ true → cond a (same_content c blank)
        (cond (eqb k 0 && ltb v 8) (same_content c fresh_content) (in_range c)) ≡ true → c ≡ blank
    blanks true e h = same_content_lem c blank h
    blanks false e h = absurd (true≢false (sym e))

    first :
        (a : Bool) → a ≡ false → (x : Bool) → x ≡ true → (y : Bool) → y ≡ true → cond a (same_content c blank)
        (cond (x && y) (same_content c fresh_content) (in_range c)) ≡ true → c ≡ fresh_content
    first true e x p y q h = absurd (true≢false e)
    first false e false p y q h = absurd (true≢false (sym p))
    first false e true p false q h = absurd (true≢false (sym q))
    first false e true p true q h = same_content_lem c fresh_content h

fresh-range : in_range fresh_content ≡ true
unfolding in_range good_chance
fresh-range = refl

-- The lists that words stand for: kept versions from their slots, dropped ones fresh.
unfoldable pub content_of : List ℕ → ℕ → ℕ → Content
content_of w d u = cond (ltb (version_of w d) (u + 8)) (slot_at w d (u % 8)) fresh_content

unfoldable pub list_of : List ℕ → ℕ → List Content
list_of w d = table (version_of w d + 1) (content_of w d)

unfoldable pub decode : List ℕ → State
decode w = table 32 (list_of w)

module _ (w : List ℕ) (h : valid w ≡ true) (d : ℕ) (low : d < 32) where
  length_list : length (list_of w d) ≡ version_of w d + 1
  unfolding list_of
  length_list = length-table (content_of w d) (version_of w d + 1)

  list_at : (u : ℕ) → u < length (list_of w d) → get_or (list_of w d) u blank ≡ content_of w d u
  unfolding list_of
  list_at u l = table_at blank (content_of w d) (version_of w d + 1) u (omega (arith, length_list))

  kept_at : (u : ℕ) → version_of w d < u + 8 → content_of w d u ≡ slot_at w d (u % 8)
  unfolding content_of
  kept_at u l = rw (lt-ltb (version_of w d) (u + 8) l)

  gone_at : (u : ℕ) → u + 8 ≤ version_of w d → content_of w d u ≡ fresh_content
  unfolding content_of
  gone_at u l = rw (le-ltb (version_of w d) (u + 8) l)

  v : ℕ
  v = version_of w d

  pub list-good : GoodList (list_of w d)
  list-good =
      let n = length_list in
      let m = valid-version w d h low in
      record {
        made = omega arith;
        most = omega arith;
        first =
            list_at 0 (omega arith)
            ∙ decide (ltb (version_of w d) 8)
            (λ t. let l = ltb-true (version_of w d) 8 t in kept_at 0 (omega arith) ∙ (slot_cases (version_of w d)
            (slot_at w d 0) 0 (valid-slot w d 0 h low (omega arith))).1 refl l)
            (λ t. gone_at 0 (omega (arith, ltb-false (version_of w d) 8 t)));
        range = λ u l.
            ap in_range (list_at u l)
            ∙ decide (ltb (version_of w d) (u + 8))
            (λ t. ap in_range (kept_at u (ltb-true (version_of w d) (u + 8) t)) ∙ slot-made (version_of w d)
            (slot_at w d (u % 8)) (u % 8) (valid-slot w d (u % 8) h low (omega arith)) (omega arith))
            (λ t. ap in_range (gone_at u (ltb-false (version_of w d) (u + 8) t)) ∙ fresh-range);
      }

  pub list_held : HoldsList w d (list_of w d)
  list_held =
      let n = length_list in
      record {
        version = omega arith;
        slot = λ u a b. sym (list_at u a ∙ kept_at u (omega arith));
        unmade = λ k a b. (slot_cases (version_of w d) (slot_at w d k) k (valid-slot w d k h low b)).0 (omega arith);
      }

decode-at : (w : List ℕ) (d : ℕ) → d < 32 → versions (decode w) d ≡ list_of w d
unfolding decode
decode-at w d l = table_at [] (list_of w) 32 d l

pub decode-sound : (w : List ℕ) → valid w ≡ true → Sound (decode w)
unfolding decode
decode-sound w h =
    record { many = length-table (list_of w) 32; each = λ d l. rw (decode-at w d l) (list-good w h d l) }

pub decode-holds : (w : List ℕ) → valid w ≡ true → Holds (decode w) w
decode-holds w h = record { long = valid-long w h; each = λ d l. rw (decode-at w d l) (list_held w h d l) }
