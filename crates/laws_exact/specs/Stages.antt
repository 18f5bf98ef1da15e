-- The product of two blocks that are cut already (document 01, port order 4) is the exact one on whichever way is
-- chosen: one, constant, linear, general, from either side.
-- The product by a constant that a line asks for is the product again, one stage lower.
use Rattle.std.specs.Prelude.{◌≡◌, true, List, ℕ, zero, suc, ◌*◌, ◌≤◌, eqb, ℤ, pos, nat_abs, ◌*ℤ◌}
use Rattle.std.proofs.Common.{sym, ap, ◌∙◌, le_trans, le_refl, arith, eqb-true}
use Rattle.std.proofs.Math.IntN.{*ℤ_comm}
use Rattle.std.specs.Float.Ieee.{eq}
use Rattle.lists.specs.Test.{and_left, and_right, of-both}
use Rattle.model_textbook.specs.Box.{degree}
use Rattle.model.specs.Poly.{Block}
use Rattle.model.specs.Readings.{one_f, first}
use Rattle.model.specs.Linear.{linear}
use Rattle.model.specs.Product.{is_constant, is_one, constant_block, scaled, linear_product, product_of}
use Rattle.model_textbook.specs.Textbook.{Series, times, origin}
use Rattle.laws_whole.specs.Int.{*ℤ-unit}
use Rattle.laws_whole.specs.Compare.{eq-one}
use Rattle.laws_whole.specs.SeriesLaws.{times-comm}
use Rattle.laws_whole.specs.SeriesSizes.{abs-times}
use Rattle.laws_keeps.specs.Sits.{Sits, sits-more}
use Rattle.laws_keeps.specs.ProductKeeps.{shape-under, constant-sits}
use Rattle.laws_keeps.proofs.ProductKeeps.{product-sits}
use Rattle.laws_exact.specs.Factors.{sizes-comm, sizes-less, constant_of}
use Rattle.laws_exact.specs.Generals.{Fits, general-is}
use Rattle.laws_exact.specs.Wholes.{Is, is_same_lem}
use Rattle.laws_exact.specs.Firsts.{first-whole}
use Rattle.laws_keeps.specs.Ways.{Shortcuts, by_way, by-way_or-line, Line, linear-is}
use Rattle.laws_exact.specs.Constants.{scaled-is, constant-is, constant-times}
use Rattle.laws_exact.specs.Lines.{line-constant}

-- ---- bounds

pub fits-comm : {l : List ℕ} {A B : Series} → Fits l A B → Fits l B A
fits-comm {A = A} {B = B} r = record { at = λ k f i. rw (sizes-comm B A k) (r.at k f i) }

-- the constant of a factor in its place
small-constant : (A : Series) (j : List ℕ) → nat_abs (constant_of A j) ≤ nat_abs (A j)
small-constant A j = of-both (λ x. nat_abs x ≤ nat_abs (A j)) (eqb (degree j) 0) (le_refl _) (omega arith)

pub fits-constant : {l : List ℕ} {A B : Series} → Fits l A B → Fits l B (constant_of A)
fits-constant {A = A} {B = B} r = record { at = λ k f i. le_trans (sizes-less B A (constant_of A) k (small-constant A)) ((fits-comm r).at k f i) }

-- ---- the ways

one-times : (z : ℤ) → pos 1 *ℤ z ≡ z
one-times z = *ℤ_comm (pos 1) z ∙ *ℤ-unit z

module _ {l : List ℕ} {a b : Block} {A B : Series} (s : Sits l a) (p : Is l a A) (q : Is l b B) where
  -- 1 times b
  one-is : is_one a ≡ true → Is l b (times A B)
  one-is e =
      let c = eqb-true _ _ (and_left (is_constant a) (eq (first a.places) one_f) e) in
      let o : A origin ≡ pos 1 = (eq-one (first-whole s p)).0 (and_right (is_constant a) (eq (first a.places) one_f) e) in
      is_same_lem (λ k f i. sym (constant-times s p c B k f i ∙ ap (λ (z : ℤ). z *ℤ B k) o ∙ one-times (B k))) q

  -- c times b
  by_constant_lem : Fits l A B → is_constant a ≡ true → Is l (scaled (first a.places) b) (times A B)
  by_constant_lem room e =
      let c = eqb-true _ _ e in
      is_same_lem (λ k f i. sym (constant-times s p c B k f i))
      (scaled-is (first-whole s p) q (λ k f i. rw (← constant-times s p c B k f i) (le_trans (abs-times A B k) (room.at k f i))))

pub swapped : {l : List ℕ} {x : Block} (A B : Series) → Is l x (times B A) → Is l x (times A B)
swapped A B = is_same_lem (λ k f i. times-comm B A k)

-- the shortcuts
pub shortcut-is : {l : List ℕ} {a b : Block} {A B : Series} → Sits l a → Sits l b → Is l a A → Is l b B → Fits l A B → Shortcuts a b (λ x. Is l x (times A B))
shortcut-is {A = A} {B = B} s t p q r = record {
  left_one = one-is s p q;
  right_one = λ e. swapped A B (one-is t q p e);
  left_constant = by_constant_lem s p q r;
  right_constant = λ e. swapped A B (by_constant_lem t q p (fits-comm r) e);
}
