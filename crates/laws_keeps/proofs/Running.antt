-- What rests on laws of specs/ (Running).
use Rattle.std.specs.Prelude.{ℕ, ◌+◌, ◌≤◌, ◌<◌, ◌||◌, List}
use Rattle.std.proofs.Common.{arith}
use Rattle.lists.specs.Test.{of-both}
use Rattle.lists.specs.Four.{at}
use Rattle.model.specs.Refusals.{zero_f}
use Rattle.model.specs.Poly.{Block, cut}
use Rattle.model.specs.Limits.{sum_shape}
use Rattle.model.specs.Product.{is_zero, multiplied}
use Rattle.shape.specs.Cut.{cut_at}
use Rattle.laws_keeps.specs.Sits.{Sits, sits-more, cut-sits, sum_at_lem}
use Rattle.laws_keeps.specs.ProductKeeps.{constant-sits, left-fits, shape-under}
use Rattle.laws_keeps.proofs.ProductKeeps.{product-sits}
use Rattle.laws_keeps.specs.Running.{Most}

module _ (l : List ℕ) (a b : Block) (pos_l : (k : ℕ) → k < 4 → 1 ≤ at l k) (p : (k : ℕ) → k < 4 → 1 ≤ at a.lengths k)
    (q : (k : ℕ) → k < 4 → 1 ≤ at b.lengths k) where
  -- the whole product, zero tested before the cut
  pub multiplied-fits : Sits (sum_shape l (cut l a).lengths (cut l b).lengths) (multiplied l a b)
  unfolding multiplied
  multiplied-fits =
      let s = cut-sits l a pos_l p in
      let t = cut-sits l b pos_l q in
      of-both (Sits _) (is_zero a || is_zero b) (constant-sits zero_f (left-fits s t)) (product-sits 1 s t)

  pub multiplied-sits : Sits l (multiplied l a b)
  multiplied-sits = sits-more (shape-under l _ _) multiplied-fits

  pub multiplied-most : {x y z : ℕ → ℕ} → ((k : ℕ) → k < 4 → at a.lengths k ≤ x k) → ((k : ℕ) → k < 4 → at (cut l b).lengths k ≤ y k)
      → ((k : ℕ) → k < 4 → x k + y k ≤ z k + 1) → Most l z (multiplied l a b)
  unfolding cut
  multiplied-most f g h = record {
    sits = multiplied-sits;
    most = λ k i.
        let s : at (cut l a).lengths k ≤ at a.lengths k = rw (cut_at l a.lengths k i) (omega arith) in
        omega (arith, multiplied-fits.hi k i, sum_at_lem l (cut l a).lengths (cut l b).lengths k i, f k i, g k i, h k i);
  }
