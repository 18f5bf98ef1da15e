use mathlib.Core.Path.{◌≡◌, ap, ◌∙◌}
use Prim.Native.Nat.{ℕ, ◌-◌}
use lib.ListN.{length, take, drop}
use Rattle.model.specs.Header.{stored}
use Rattle.shape_operands.specs.Lent.{source, length-operand}
use Rattle.recipes_singles.proofs.load_base.Goals as goal

pub load_base-requires : goal.load_base-requires
load_base-requires c =
    let part-is : c.stretch-a.result.now ≡ take (stored c.args.x)
    (drop c.args.from (source c.args.input c.args.coefficients.now
    c.args.pool.now)) =
    c.stretch-a.ensures
    ∙ ap (λ (k : ℕ). take k (drop c.args.from
    (source c.args.input c.args.coefficients.now c.args.pool.now)))
    c.stored_of-given.ensures in
    let part-full : length c.stretch-a.result.now ≡ stored c.args.x =
    ap length (part-is) ∙ length-operand c.args.from (stored c.args.x)
    (source c.args.input c.args.coefficients.now c.args.pool.now) c.requires.fact_3 in
    λ some. rw (part-full) (c.requires.fact_2 some)

pub returns : goal.returns
returns c =
    let part-is : c.stretch-a.result.now ≡ take (stored c.args.x)
    (drop c.args.from (source c.args.input c.args.coefficients.now
    c.args.pool.now)) =
    c.stretch-a.ensures
    ∙ ap (λ (k : ℕ). take k (drop c.args.from
    (source c.args.input c.args.coefficients.now c.args.pool.now)))
    c.stored_of-given.ensures in
    rw (part-is) at c.load_base.ensures
