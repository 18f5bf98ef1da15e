-- The whole product of two blocks under the limits l (document 01, port order 4): zero is tested before the cut, the
-- rest after it. A zero that only the cut makes is a constant like any other.
use Rattle.std.specs.Prelude.{◌≡◌, refl, true, ◌||◌, List, ℕ, ◌≤◌, ◌<◌, eqb, length, ℤ, pos, ◌*ℤ◌}
use Rattle.std.proofs.Common.{sym, ap, ◌∙◌, lit<, eqb-true}
use Rattle.std.proofs.Math.IntN.{zero-*ℤ, *ℤ-zero}
use Rattle.std.specs.Float.Ieee.{eq}
use Rattle.lists.specs.Test.{decide, and_left, and_right, or_right, of-both}
use Rattle.lists.specs.Four.{at, each}
use Rattle.model_textbook.specs.Box.{index_minus, degree}
use Rattle.model.specs.Refusals.{zero_f}
use Rattle.model.specs.Poly.{Block}
use Rattle.model.specs.Readings.{first}
use Rattle.model.specs.Product.{is_constant, is_zero, constant_block, multiplied}
use Rattle.model_textbook.specs.Textbook.{Series, times, origin}
use Rattle.laws_whole.specs.Whole.{whole-zero}
use Rattle.laws_whole.specs.Compare.{eq-zero}
use Rattle.laws_whole.specs.IndexLaws.{within-length, minus-length, minus-within}
use Rattle.shape_words.specs.Lengths.{Inside, inside-four}
use Rattle.laws_keeps.specs.Sits.{Sits, cut-sits}
use Rattle.laws_exact.specs.Windows.{times_none}
use Rattle.laws_exact.specs.Generals.{Fits, before}
use Rattle.laws_exact.specs.Wholes.{Is, cut-is, is_same_lem, stored_at, place-origin}
use Rattle.laws_exact.specs.Firsts.{at-origin, only-first, origin-stored}
use Rattle.laws_exact.specs.Constants.{constant-is}

-- ---- a zero before the cut

module _ {l : List ℕ} {a : Block} {A : Series} (pos_l : (k : ℕ) → k < 4 → 1 ≤ at l k) (s : Sits a.lengths a) (p : Is l a A) (e : is_zero a ≡ true) where
  origin-under : Inside l origin
  origin-under = inside-four (each (λ k. at origin k < at l k) (pos_l 0 (lit< tt)) (pos_l 1 (lit< tt)) (pos_l 2 (lit< tt)) (pos_l 3 (lit< tt)))

  first-zero : A origin ≡ pos 0
  first-zero =
      (eq-zero (rw (place-origin a.lengths) at (stored_at a origin (p.at origin refl origin-under) (origin-stored s)))).0
      (and_right (is_constant a) (eq (first a.places) zero_f) e)

  pub zero-series : (k : List ℕ) → length k ≡ 4 → Inside l k → A k ≡ pos 0
  zero-series k f i =
      at-origin k f
      (λ o. ap A o ∙ first-zero)
      (λ o. only-first s p (eqb-true _ _ (and_left (is_constant a) (eq (first a.places) zero_f) e)) k f i o)

pub zero_is : {l : List ℕ} {Z : Series} → ((k : List ℕ) → length k ≡ 4 → Inside l k → Z k ≡ pos 0) → Is l (constant_block zero_f) Z
zero_is {Z = Z} h = is_same_lem (λ k f i. of-both (λ x. x ≡ Z k) (eqb (degree k) 0) (sym (h k f i)) (sym (h k f i))) (constant-is (λ k. pos 0) whole-zero)

-- ---- the product

module _ {l : List ℕ} {a b : Block} {A B : Series} (pos_l : (k : ℕ) → k < 4 → 1 ≤ at l k) (s : Sits a.lengths a)
    (t : Sits b.lengths b) (p : Is l a A) (q : Is l b B) where
  -- either is zero
  pub zero-way : (is_zero a || is_zero b) ≡ true → (k : List ℕ) → length k ≡ 4 → Inside l k → times A B k ≡ pos 0
  zero-way e k f i =
      decide (is_zero a)
      (λ u. times_none A B k (λ j w.
      ap (λ (z : ℤ). z *ℤ B (index_minus k j)) (zero-series pos_l s p u j (within-length w ∙ f) (before w i)) ∙ zero-*ℤ (B (index_minus k j))))
      (λ u. times_none A B k (λ j w.
      ap (λ (z : ℤ). A j *ℤ z) (zero-series pos_l t q (or_right (is_zero a) (is_zero b) e u) (index_minus k j)
      (minus-length k j ∙ f) (before (minus-within k j) i)) ∙ *ℤ-zero (A j)))
