use mathlib.Core.Path.{◌≡◌, ap, ◌∙◌}
use mathlib.Core.List.{List}
use Prim.Native.Nat.{ℕ, ◌-◌}
use lib.ListN.{length, take, drop}
use lib.Ieee.{Float}
use Rattle.model.specs.Header.{stored}
use Rattle.shape_operands.specs.Lent.{source, length-operand}
use Rattle.model.specs.Poly.{block}
use Rattle.model.specs.Product.{is_zero}
use Rattle.shape_words.specs.Lengths.{count-pos}
use Rattle.product.specs.Times.{zero_is}
use Rattle.recipes_pairs.proofs.load_pair.Goals as goal

pub load_two-requires : goal.load_two-requires
load_two-requires c =
    let left_is : c.stretch-a.result.now ≡ take (stored c.args.x)
    (drop c.args.xf (source c.args.xi c.args.coefficients.now c.args.pool.now)) =
    c.stretch-a.ensures ∙ ap (λ (k : ℕ).
    take k (drop c.args.xf (source c.args.xi c.args.coefficients.now
    c.args.pool.now))) c.stored_of-na.ensures in
    let left-full : length c.stretch-a.result.now ≡ stored c.args.x =
    ap length (left_is) ∙ length-operand c.args.xf (stored c.args.x)
    (source c.args.xi c.args.coefficients.now c.args.pool.now) c.requires.fact_4 in
    let right_is : c.stretch-b.result.now ≡ take (stored c.args.y)
    (drop c.args.yf (source c.args.yi c.args.coefficients.now c.args.pool.now)) =
    c.stretch-b.ensures
    ∙ ap (λ (k : ℕ). take k (drop c.args.yf
    (source c.args.yi c.args.coefficients.now c.args.pool.now)))
    c.stored_of-nb.ensures in
    let right-full : length c.stretch-b.result.now ≡ stored c.args.y =
    ap length (right_is) ∙ length-operand c.args.yf (stored c.args.y)
    (source c.args.yi c.args.coefficients.now c.args.pool.now) c.requires.fact_5 in
    rw (c.cut_to-ca.ensures, c.cut_to-cb.ensures, left-full, right-full) c.requires.fact_1

pub is_zero-requires : goal.is_zero-requires
is_zero-requires c =
    let left_is : c.stretch-a.result.now ≡ take (stored c.args.x)
    (drop c.args.xf (source c.args.xi c.args.coefficients.now c.args.pool.now)) =
    c.stretch-a.ensures ∙ ap (λ (k : ℕ).
    take k (drop c.args.xf (source c.args.xi c.args.coefficients.now
    c.args.pool.now))) c.stored_of-na.ensures in
    let left-full : length c.stretch-a.result.now ≡ stored c.args.x =
    ap length (left_is) ∙ length-operand c.args.xf (stored c.args.x)
    (source c.args.xi c.args.coefficients.now c.args.pool.now) c.requires.fact_4 in
    rw (left-full) (count-pos c.requires.fact_1.left)

pub is_zero-requires-2 : goal.is_zero-requires-2
is_zero-requires-2 c =
    let right_is : c.stretch-b.result.now ≡ take (stored c.args.y)
    (drop c.args.yf (source c.args.yi c.args.coefficients.now c.args.pool.now)) =
    c.stretch-b.ensures
    ∙ ap (λ (k : ℕ). take k (drop c.args.yf
    (source c.args.yi c.args.coefficients.now c.args.pool.now)))
    c.stored_of-nb.ensures in
    let right-full : length c.stretch-b.result.now ≡ stored c.args.y =
    ap length (right_is) ∙ length-operand c.args.yf (stored c.args.y)
    (source c.args.yi c.args.coefficients.now c.args.pool.now) c.requires.fact_5 in
    rw (right-full) (count-pos c.requires.fact_1.right)

pub returns : goal.returns
returns c =
    let left_is : c.stretch-a.result.now ≡ take (stored c.args.x)
    (drop c.args.xf (source c.args.xi c.args.coefficients.now c.args.pool.now)) =
    c.stretch-a.ensures ∙ ap (λ (k : ℕ).
    take k (drop c.args.xf (source c.args.xi c.args.coefficients.now
    c.args.pool.now))) c.stored_of-na.ensures in
    let right_is : c.stretch-b.result.now ≡ take (stored c.args.y)
    (drop c.args.yf (source c.args.yi c.args.coefficients.now c.args.pool.now)) =
    c.stretch-b.ensures
    ∙ ap (λ (k : ℕ). take k (drop c.args.yf
    (source c.args.yi c.args.coefficients.now c.args.pool.now)))
    c.stored_of-nb.ensures in
    record {
      zero = zero_is (block c.args.x.lengths
          (take (stored c.args.x) (drop c.args.xf
          (source c.args.xi c.args.coefficients.now c.args.pool.now))))
          (block c.args.y.lengths (take (stored c.args.y)
          (drop c.args.yf (source c.args.yi c.args.coefficients.now c.args.pool.now))))
          (c.is_zero.ensures ∙ ap (λ (l : List Float). is_zero (block c.args.x.lengths l)) (left_is))
          (c.is_zero-2.ensures ∙ ap (λ (l : List Float). is_zero (block c.args.y.lengths l)) (right_is));
      holds = rw (
        c.cut_to-ca.ensures,
        c.cut_to-cb.ensures,
        left_is,
        right_is,
      ) at c.load_two.ensures;
    }
