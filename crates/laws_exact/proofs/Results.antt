-- What rests on laws of specs/ (Results).
use Rattle.std.specs.Prelude.{true, false, ℕ, ◌+◌, ◌*◌, ◌^◌, ◌≤◌, length, ℤ}
use Rattle.std.proofs.Common.{ap, le_trans, mul-le-mul, arith}
use Rattle.model.specs.declared.Family.TheVariants.{Sum, Product}
use Rattle.model.specs.Announced.{announced}
use Rattle.model.specs.Poly.{Poly, block_of}
use Rattle.model.specs.Add.{combined}
use Rattle.model.specs.Product.{product_poly}
use Rattle.model_textbook.specs.Textbook.{plus, less, times}
use Rattle.laws_whole.specs.SeriesSizes.{weight-plus, weight-times}
use Rattle.shape_words.specs.Rules.{Regular}
use Rattle.laws_keeps.specs.Keeps.{combined-keeps}
use Rattle.laws_keeps.proofs.ProductKeeps.{product-keeps}
use Rattle.laws_exact.specs.Wholes.{Wholes}
use Rattle.laws_exact.specs.Sums.{series_in, weight_in}
use Rattle.laws_exact.proofs.SumLaws.{sum-exact, difference-exact}
use Rattle.laws_exact.proofs.ProductLaws.{product-exact}
use Rattle.laws_exact.specs.Results.{Result, left-weight, result, right-weight, weight-less}

module _ (p q : Poly) (g : Regular p.head) (h : Regular q.head) (a b : ℕ → ℤ) (u : Wholes (block_of p) a) (v : Wholes (block_of q) b) where
  module _ (bound : weight_in p a + weight_in q b ≤ 2 ^ 53) where
    pub sum-result : Result (announced Sum p.head q.head).limits (combined false p q) (plus (series_in p a) (series_in q b)) (weight_in p a + weight_in q b)
    sum-result =
        let k = combined-keeps p q g h false in
        let n = (combined false p q).head.lengths in
        let e = ap length k.regular.ns in
        result k (record { at = sum-exact p q g h a b u v bound })
        (omega (arith, weight-plus (series_in p a) (series_in q b) n, (left-weight p q g h a b u v) n e, (right-weight p q g h a b u v) n e))

    pub difference-result : Result (announced Sum p.head q.head).limits (combined true p q)
        (less (series_in p a) (series_in q b)) (weight_in p a + weight_in q b)
    difference-result =
        let k = combined-keeps p q g h true in
        let n = (combined true p q).head.lengths in
        let e = ap length k.regular.ns in
        result k (record { at = difference-exact p q g h a b u v bound })
        (omega (arith, weight-less (series_in p a) (series_in q b) n, (left-weight p q g h a b u v) n e, (right-weight p q g h a b u v) n e))

  module _ (bound : weight_in p a * weight_in q b ≤ 2 ^ 53) where
    pub product-result : Result (announced Product p.head q.head).limits (product_poly p q)
        (times (series_in p a) (series_in q b)) (weight_in p a * weight_in q b)
    product-result =
        let k = product-keeps p q g h in
        let e = ap length k.regular.ns in
        result k (record { at = product-exact p q g h a b u v bound })
        (le_trans (weight-times (series_in p a) (series_in q b) (product_poly p q).head.lengths) (mul-le-mul
        ((left-weight p q g h a b u v) _ e) ((right-weight p q g h a b u v) _ e)))
