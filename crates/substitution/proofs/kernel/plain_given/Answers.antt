use native.Mathlib.Omega.{arith}
use mathlib.Core.Path.{◌≡◌, ap, ◌∙◌}
use mathlib.Core.List.{List}
use Prim.Native.Nat.{◌+◌, ◌-◌}
use lib.ListN.{length}
use lib.Ieee.{Float}
use Rattle.lists.specs.Part.{part, length_part}
use Rattle.model.specs.Poly.{block}
use Rattle.shape_operands.specs.Lent.{part-kept}
use Rattle.shape_operands.specs.Operand.{given-within}
use Rattle.substitution.specs.Entry.{stands_same}
use Rattle.substitution.specs.Placed.{plain_of, wrote_of, given-operand}
use Rattle.substitution.proofs.kernel.plain_given.Goals as goal

pub overflow_add-end : goal.overflow_add-end
overflow_add-end c = omega (arith, c.requires.fact_4, c.well_formed)

pub offset_bounds-out-at : goal.offset_bounds-out-at
offset_bounds-out-at c = omega (arith, c.requires.fact_4, c.well_formed)

pub plain_from-requires : goal.plain_from-requires
plain_from-requires c =
    let long : length (part c.args.at (c.args.at + c.args.n) c.args.out.now) ≡ c.args.n =
    length_part c.args.at (c.args.at + c.args.n) c.args.out.now (omega arith) c.requires.fact_4 ∙ omega arith in
    record { fact_1 = rw (long) c.requires.fact_1; fact_2 = given-within c.args.a.now c.args.a.now c.requires.fact_2 c.requires.fact_3 }

pub returns : goal.returns
returns c =
    wrote_of (part-kept c.args.at (c.args.at + c.args.n) c.args.out.now c.plain_from.new.out
    (c.plain_from.auto.out
    ∙ length_part c.args.at (c.args.at + c.args.n) c.args.out.now (omega arith) c.requires.fact_4) (omega arith) c.requires.fact_4)
    (stands_same (ap (λ (l : List Float). plain_of c.args.w c.args.limits c.args.v (block c.args.p.head.lengths l))
    (given-operand c.args.p c.args.a.now c.args.a.now c.args.out.now c.requires.fact_3))
    c.plain_from.ensures)
