use mathlib.Core.Path.{◌≡◌, ap, ◌∙◌}
use mathlib.Core.List.{List}
use Prim.Native.Nat.{ℕ, ◌-◌}
use lib.ListN.{length, take, drop}
use lib.Ieee.{Float}
use Rattle.shape_operands.specs.Lent.{source, length-operand}
use Rattle.recipes_singles.specs.Change.{changed_poly}
use Rattle.model.specs.Refusals.{padded}
use Rattle.model.specs.Header.{stored}
use Rattle.model.specs.Poly.{poly}
use Rattle.recipes_singles.proofs.change_from.Goals as goal

pub changed-requires : goal.changed-requires
changed-requires c =
    let part-is : c.stretch-a.result.now ≡ take (stored c.args.x)
    (drop c.args.from (source c.args.input c.args.coefficients.now
    c.args.pool.now)) =
    c.stretch-a.ensures
    ∙ ap (λ (k : ℕ). take k (drop c.args.from
    (source c.args.input c.args.coefficients.now c.args.pool.now)))
    c.stored_of-given.ensures in
    let part-full : length c.stretch-a.result.now ≡ stored c.args.x =
    ap length (part-is) ∙ length-operand c.args.from (stored c.args.x)
    (source c.args.input c.args.coefficients.now c.args.pool.now) c.requires.fact_2 in
    rw (part-full) c.requires.fact_1

pub returns : goal.returns
returns c =
    let part-is : c.stretch-a.result.now ≡ take (stored c.args.x)
    (drop c.args.from (source c.args.input c.args.coefficients.now
    c.args.pool.now)) =
    c.stretch-a.ensures
    ∙ ap (λ (k : ℕ). take k (drop c.args.from
    (source c.args.input c.args.coefficients.now c.args.pool.now)))
    c.stored_of-given.ensures in
    record {
      head = c.changed.ensures.head ∙ ap
          (λ (a : List Float). (changed_poly c.args.kind c.args.v c.args.d
          (poly c.args.x a)).head) (part-is);
      places = c.changed.ensures.places
          ∙ ap (λ (a : List Float). padded (stored c.args.h)
          (changed_poly c.args.kind c.args.v c.args.d (poly c.args.x a)).coeffs)
          (part-is);
    }
