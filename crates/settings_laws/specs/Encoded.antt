-- Words that hold lists are their encoding, and what stands behind the store.
use Prim.Native.Nat.{ℕ, zero, suc, ◌+◌, ◌*◌, ◌/◌, ◌%◌, ◌≤◌, ◌<◌}
use Rattle.std.specs.Prelude.{List, ◌++◌, ◌≡◌, length, get_or, take, drop, ltb, eqb}
use Rattle.std.proofs.Math.Path.{refl, ap}
use Rattle.std.proofs.Common.{sym, ◌∙◌, div-add-mod', add-zero, take-append-drop}
use native.Mathlib.Omega.{arith}
use borrow.Author.Tests.{ltb-true, ltb-false, eqb-true, eqb-false}
use Rattle.lists.specs.Test.{decide}
use Rattle.lists.specs.Table.{table-take, table_same}
use Rattle.model_settings.specs.declared.Content.{Content}
use Rattle.model_settings.specs.Store.{State, versions, fresh_state, Call}
use Rattle.model_settings.specs.Words.{word, packed, slot_of, word_at, encode, slot_at, fresh_words}
use Rattle.settings_laws.specs.Sound.{GoodList, Sound, HoldsList, Holds}
use Rattle.settings_laws.specs.Agree.{list-slot}
use Rattle.model_settings.specs.Calls.{after_all, words_after_all}
use Rattle.settings_laws.specs.Sequences.{Stands, sequence-words}

module _ (w : List ℕ) (d : ℕ) (xs : List Content) (g : GoodList xs) (h : HoldsList w d xs) where
  pub slot_is : (k : ℕ) → k < 8 → slot_at w d k ≡ slot_of xs k
  unfolding slot_of
  slot_is k l =
      decide (ltb k (length xs))
      (λ t. rw t (list-slot w d xs g h k l (ltb-true k (length xs) t)))
      (λ t. rw t (h.unmade k (ltb-false k (length xs) t) l))

  low_word : (k : ℕ) → (slot_at w d k).chance ≡ word w (d * 17 + 1 + 2 * k)
  unfolding slot_at
  low_word k = refl

  high_word : (k : ℕ) → packed (slot_at w d k) ≡ word w (d * 17 + 2 + 2 * k)
  unfolding slot_at
  high_word k = whole (word w (d * 17 + 2 + 2 * k))
    where
      whole : (x : ℕ) → x % 256 + 256 * (x / 256) ≡ x
      whole x = omega arith

  pub place_is : (j : ℕ) → j < 17 → word w (d * 17 + j) ≡ word_at xs j
  unfolding word_at
  place_is zero l = ap (word w) (add-zero (d * 17)) ∙ h.version
  place_is (suc j) l =
      decide (eqb (j % 2) 0)
      (λ t.
      let e : d * 17 + suc j ≡ d * 17 + 1 + 2 * (j / 2) = omega (arith, eqb-true (j % 2) 0 t) in
      rw t (ap (word w) e ∙ (sym (low_word (j / 2)) ∙ ap (λ c. c.chance) (slot_is (j / 2) (omega arith)))))
      (λ t.
      let n = eqb-false (j % 2) 0 t in
      let e : d * 17 + suc j ≡ d * 17 + 2 + 2 * (j / 2) = omega arith in
      rw t (ap (word w) e ∙ (sym (high_word (j / 2)) ∙ ap (λ c. packed c) (slot_is (j / 2) (omega arith)))))

pub holds_encoded : {s : State} {w : List ℕ} → Sound s → Holds s w → take 544 w ≡ encode s
unfolding encode
holds_encoded {s} {w} g h =
    sym (table-take 0 w 544 h.long)
    ∙ table_same (λ i. get_or w i 0) (λ i. word_at (versions s (i / 17)) (i % 17)) 544
    (λ i l.
    let d : ℕ = i / 17 in
    let low : d < 32 = omega arith in
    ap (word w) (sym (div-add-mod' i 17)) ∙ place_is w d (versions s d) (g.each d low) (h.each d low) (i % 17)
    (omega arith))

pub stands_encoded : {rest : List ℕ} {s : State} {w : List ℕ} → Stands rest s w → w ≡ encode s ++ rest
stands_encoded {rest} {s} {w} t =
    sym (take-append-drop 544 w) ∙
    (ap (λ l. l ++ drop 544 w) (holds_encoded t.sound t.holds) ∙ ap (λ l. encode s ++ l) t.behind)

-- after a fresh store and any calls the words are the encoding of the lists, and the words behind the store are as they
-- were
pub sequence-encoded :
    (w : List ℕ) → 544 ≤ length w → (cs : List Call) → words_after_all cs (fresh_words w) ≡ encode
    (after_all cs fresh_state) ++ drop 544 w
sequence-encoded w h cs = stands_encoded (sequence-words w h cs)
