-- What the loops of the test and of a fresh store carry.
use Rattle.std.specs.Prelude.{ℕ, ◌+◌, ◌≤◌, ◌<◌, Bool, true, false, ◌&&◌, List, ◌++◌, ◌≡◌, length, take, drop, ltb, eqb}
use Rattle.std.proofs.Common.{sym, ap, ◌∙◌, zero-add, le-leb, lt-ltb, le-ltb, arith, length-take}
use Rattle.std.proofs.lemmas.Bool.{lt-leb}
use Rattle.lists.specs.Every.{every}
use Rattle.lists.specs.Table.{table}
use Rattle.model_settings.specs.declared.Content.{Content}
use Rattle.model_settings.specs.declared.Unsettled.TheVariants.{NoStore}
use Rattle.model_settings.specs.Store.{last_version, blank, fresh_content, in_range, told, refuse, ask}
use Rattle.model_settings.specs.Words.{slot_at, same_content, good_slot, good_department, valid, version_of, fresh_word}
use Rattle.model_settings.specs.Words.{fresh_words, fresh_answer}

module _ (w : List ℕ) (d v : ℕ) where
  -- the test of slot k
  abbrev pub slot_test : ℕ → Bool
  slot_test k = good_slot v (slot_at w d k) k

  pub slot-test :
      (k : ℕ) {r b : Bool} {c : Content} → r ≡ good_slot v c k → c ≡ slot_at w d k → r ≡ b → slot_test (0 + k) ≡ b
  slot-test k p q e = rw (zero-add k) (ap (λ z. good_slot v z k) (sym q) ∙ sym p ∙ e)

pub department-is :
    (w : List ℕ) (d : ℕ) {b : Bool} → version_of w d ≤ last_version → every (slot_test w d (version_of w d)) 8 0 ≡ b
    → b ≡ good_department w d
unfolding good_department
department-is w d h e = rw (le-leb _ _ h) (sym e)

pub department_no : (w : List ℕ) (d : ℕ) → last_version < version_of w d → false ≡ good_department w d
unfolding good_department
department_no w d h = rw (lt-leb _ _ h)

pub department-test :
    (w : List ℕ) (d : ℕ) {r b : Bool} → r ≡ good_department w d → r ≡ b → good_department w (0 + d) ≡ b
department-test w d p e = rw (zero-add d) (sym p ∙ e)

pub valid-is : (w : List ℕ) {b : Bool} → 544 ≤ length w → every (good_department w) 32 0 ≡ b → b ≡ valid w
unfolding valid
valid-is w h e = rw (le-leb _ _ h) (sym e)

pub valid_no : (w : List ℕ) → length w < 544 → false ≡ valid w
unfolding valid
valid_no w h = rw (lt-leb _ _ h)

module _ (v : ℕ) (c : Content) (k : ℕ) where
  pub slot-blank : v < k → same_content c blank ≡ good_slot v c k
  unfolding good_slot
  slot-blank h = rw (lt-ltb _ _ h)

  pub slot-fresh : k ≤ v → (eqb k 0 && ltb v 8) ≡ true → same_content c fresh_content ≡ good_slot v c k
  unfolding good_slot
  slot-fresh h e = rw (le-ltb _ _ h, e)

  pub slot-range : k ≤ v → (eqb k 0 && ltb v 8) ≡ false → in_range c ≡ good_slot v c k
  unfolding good_slot
  slot-range h e = rw (le-ltb _ _ h, e)

-- the first 544 words are written
pub fresh-words :
    (w out : List ℕ) → 544 ≤ length w → out ≡ table (length (take 544 w)) fresh_word → out ++ drop 544 w ≡ fresh_words w
unfolding fresh_words
fresh-words w out h e =
    let n : length (take 544 w) ≡ 544 = simp length-take (omega arith) in
    rw (le-leb _ _ h, e, n)

pub fresh-none : (w : List ℕ) → length w < 544 → w ≡ fresh_words w
unfolding fresh_words
fresh-none w h = rw (lt-leb _ _ h)

pub fresh-done : (w : List ℕ) → 544 ≤ length w → told 0 fresh_content ≡ fresh_answer w
unfolding fresh_answer ask
fresh-done w h = rw (le-leb _ _ h)

pub fresh-short : (w : List ℕ) → length w < 544 → refuse NoStore ≡ fresh_answer w
unfolding fresh_answer ask
fresh-short w h = rw (lt-leb _ _ h)
