-- What a place of a quotient finds (document 01, port order 5): the places before it. By the first variable left, every
-- row before its own is stored whole, so that it can be a factor of a product, and of its own row what lies before it,
-- which is the same again in the variables after.
use Rattle.std.specs.Prelude.{◌≡◌, List, ◌∷◌, ℕ, ◌+◌, ◌*◌, ◌<◌, get_or, take, drop, Float}
use Rattle.std.proofs.Common.{le_refl, arith, get_or-drop}
use Rattle.std.proofs.Math.Arith.{digits_lt}
use Rattle.std.proofs.Math.Seq.{get_or-take}
use Rattle.std.specs.Float.Ieee.{nan}
use Rattle.model_textbook.specs.Textbook.{Series}
use Rattle.laws_whole.specs.Index.{InBox, Within}
use Rattle.laws_whole.specs.PlaceLaws.{box_count, box_place}
use Rattle.laws_whole.specs.Whole.{Whole}
use Rattle.laws_exact.specs.Terms.{Stores}

-- at every index of the box ns up to ks whose place lies before that of ks the list xs holds P
pub record Before (ns ks : List ℕ) (xs : List Float) (P : Series) : Type 0 where
  pub known : (j : List ℕ) → InBox j ns → Within j ks → box_place ns j < box_place ns ks → Whole (get_or xs (box_place ns j) nan) (P j)

box_place-lt : {j ns : List ℕ} → InBox j ns → box_place ns j < box_count ns
unfolding box_place box_count
box_place-lt InBox.none = omega arith
box_place-lt (InBox.more l u) = digits_lt l (box_place-lt u)

-- what lies before an index of a box lies in it
pub within_in-box : {j k ns : List ℕ} → Within j k → InBox k ns → InBox j ns
within_in-box Within.none InBox.none = InBox.none
within_in-box (Within.more {i = i} l w) (InBox.more {n = n} h u) = let g : i < n = omega arith in InBox.more g (within_in-box w u)

module _ {n k : ℕ} {ns ks : List ℕ} {xs : List Float} {P : Series} (s : Before (n ∷ ns) (k ∷ ks) xs P) (own : k < n) (c : ℕ) (e : c ≡ box_count ns) where
  -- a row before
  pub row_before : (i : ℕ) → i < k → InBox ks ns → Stores ns ks (drop (i * c) (take (k * c) xs)) (λ j. P (i ∷ j))
  unfolding box_place
  row_before i l z = record {
    known = λ j u w.
        let h : i * box_count ns + box_place ns j < k * box_count ns = digits_lt l (box_place-lt u) in
        rw (get_or-drop (i * c) (take (k * c) xs) (box_place ns j) nan, e, get_or-take (k * box_count ns) xs (i * box_count ns + box_place ns j) nan h)
        (s.known (i ∷ j) (InBox.more (omega arith) u) (Within.more (omega arith) w) (omega arith));
    past = λ j w o. absurd (o (within_in-box w z));
  }

  -- its own row
  pub row-own : Before ns ks (drop (k * c) xs) (λ j. P (k ∷ j))
  unfolding box_place
  row-own = record {
    known = λ j u w h. rw (get_or-drop (k * c) xs (box_place ns j) nan, e) (s.known (k ∷ j) (InBox.more own u) (Within.more (le_refl k) w) (omega arith));
  }
