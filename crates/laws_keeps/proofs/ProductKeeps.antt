-- What rests on laws of specs/ (ProductKeeps).
use Rattle.std.specs.Prelude.{◌||◌, List, ℕ, zero, suc}
use Rattle.std.proofs.Common.{arith}
use Rattle.lists.specs.Test.{of-both}
use Rattle.model.specs.declared.Family.TheVariants.{Product}
use Rattle.model.specs.Limits.{cut_to, sum_shape}
use Rattle.model.specs.Announced.{announced, paired}
use Rattle.model.specs.Refusals.{zero_f}
use Rattle.model.specs.Poly.{Poly, Block, block_of, cut}
use Rattle.model.specs.Linear.{linear}
use Rattle.model.specs.Product.{is_zero, product_of, multiplied, product_poly}
use Rattle.shape_words.specs.Rules.{Regular}
use Rattle.shape.specs.Announced.{announced-regular}
use Rattle.shape.specs.Keeps.{Keeps}
use Rattle.laws_keeps.specs.Sits.{Sits, sum_at_lem}
use Rattle.laws_keeps.specs.Keeps.{sits-keeps, left-sits, right-sits}
use Rattle.laws_keeps.specs.Ways.{by_way, by-way_or-line, linear-is, line_two_lem}
use Rattle.laws_keeps.specs.ProductKeeps.{constant-sits, general-fits, left-fits, linear-fits, right-fits, shortcut-fits}

pub product-sits : (stage : ℕ) {l : List ℕ} {a b : Block} → Sits l a → Sits l b → Sits (sum_shape l a.lengths b.lengths) (product_of stage l a b)
product-sits zero {l} s t = by_way l (shortcut-fits s t) (general-fits s t)
product-sits (suc stage) {l} {a} {b} s t =
    by-way_or-line l (shortcut-fits s t) (general-fits s t)
    (record {
      left_linear = λ e.
          let i = linear-is a e in
          let v = (linear a).variable in
          linear-fits _ l (linear a) i.var t (right-fits s t)
          (rw (sum_at_lem l a.lengths b.lengths v i.var) (omega (arith, line_two_lem a v i.fits)))
          (product-sits stage t (constant-sits _ t));
      right_linear = λ e.
          let i = linear-is b e in
          let v = (linear b).variable in
          linear-fits _ l (linear b) i.var s (left-fits s t)
          (rw (sum_at_lem l a.lengths b.lengths v i.var) (omega (arith, line_two_lem b v i.fits)))
          (product-sits stage s (constant-sits _ s));
    })

pub product-keeps : (p q : Poly) → Regular p.head → Regular q.head → Keeps (announced Product p.head q.head) (product_poly p q)
unfolding product_poly multiplied announced paired cut cut_to sum_shape
product-keeps p q g h =
    let s = left-sits p q g h in
    let t = right-sits p q g h in
    sits-keeps (announced-regular Product g h)
    (of-both (Sits _) (is_zero (block_of p) || is_zero (block_of q)) (constant-sits zero_f (general-fits s t)) (product-sits 1 s t))
