use mathlib.Core.Path.{◌≡◌, ap, ◌∙◌}
use mathlib.Core.List.{List}
use Prim.Native.Nat.{ℕ, ◌-◌}
use lib.ListN.{length, take, drop}
use lib.Ieee.{Float}
use Rattle.shape_operands.specs.Lent.{source, length-operand}
use Rattle.model.specs.Header.{stored}
use Rattle.model.specs.Poly.{poly}
use Rattle.model_exponential.specs.Step.{exponential_poly}
use Rattle.recipes_singles.specs.Exponential.{some, whole, exponential-places}
use borrow.Author.Rules.{rules}
use Rattle.recipes_singles.proofs.exp_from.Goals as goal

pub bounds-a-0 : goal.bounds-a-0
bounds-a-0 c =
    let part-is : c.stretch-a.result.now ≡ take (stored c.args.x)
    (drop c.args.from (source c.args.input c.args.coefficients.now
    c.args.pool.now)) =
    c.stretch-a.ensures
    ∙ ap (λ (k : ℕ). take k (drop c.args.from
    (source c.args.input c.args.coefficients.now c.args.pool.now)))
    c.stored_of-given.ensures in
    let part-full : length c.stretch-a.result.now ≡ stored c.args.x =
    ap length (part-is) ∙ length-operand c.args.from (stored c.args.x)
    (source c.args.input c.args.coefficients.now c.args.pool.now) c.requires.fact_2 in
    rw (part-full) (some c.requires.fact_1)

pub exp_into-requires : goal.exp_into-requires
exp_into-requires c =
    let part-is : c.stretch-a.result.now ≡ take (stored c.args.x)
    (drop c.args.from (source c.args.input c.args.coefficients.now
    c.args.pool.now)) =
    c.stretch-a.ensures
    ∙ ap (λ (k : ℕ). take k (drop c.args.from
    (source c.args.input c.args.coefficients.now c.args.pool.now)))
    c.stored_of-given.ensures in
    let part-full : length c.stretch-a.result.now ≡ stored c.args.x =
    ap length (part-is) ∙ length-operand c.args.from (stored c.args.x)
    (source c.args.input c.args.coefficients.now c.args.pool.now) c.requires.fact_2 in
    whole c.requires.fact_1 (part-full) c.requires.fact_3.0 c.requires.fact_3.1

pub returns : goal.returns
returns c =
    let part-is : c.stretch-a.result.now ≡ take (stored c.args.x)
    (drop c.args.from (source c.args.input c.args.coefficients.now
    c.args.pool.now)) =
    c.stretch-a.ensures
    ∙ ap (λ (k : ℕ). take k (drop c.args.from
    (source c.args.input c.args.coefficients.now c.args.pool.now)))
    c.stored_of-given.ensures in
    let part-full : length c.stretch-a.result.now ≡ stored c.args.x =
    ap length (part-is) ∙ length-operand c.args.from (stored c.args.x)
    (source c.args.input c.args.coefficients.now c.args.pool.now) c.requires.fact_2 in
    record {
      to_after = exponential-places c.requires.fact_1 c.stretch-a.result.now (part-full) c.exp_head-head.ensures
          c.exp_into.ensures.out_after
          ∙ ap (λ (a : List Float). (exponential_poly (poly c.args.x a)).coeffs) (part-is);
      spent = search rules;
    }
