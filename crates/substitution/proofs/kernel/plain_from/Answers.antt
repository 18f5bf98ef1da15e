use mathlib.Core.Path.{◌≡◌, ap, ◌∙◌}
use lib.ListN.{length}
use Rattle.model.specs.Header.{stored}
use Rattle.shape_operands.specs.Operand.{taken, within-full, within-ends, within-is}
use Rattle.substitution.proofs.kernel.plain_from.Goals as goal

pub stretch-given-requires : goal.stretch-given-requires
stretch-given-requires c = within-ends c.requires.fact_2

pub plain_put-requires : goal.plain_put-requires
plain_put-requires c =
    let part-is : c.stretch-given.result.now ≡ (taken c.args.p c.args.a.now c.args.earlier.now).coeffs =
    within-is c.requires.fact_2 c.stretch-given.ensures in
    let part-full : length c.stretch-given.result.now ≡ stored c.args.p.head =
    ap length (part-is) ∙ within-full c.requires.fact_2 in
    rw (part-full) c.requires.fact_1

pub returns : goal.returns
returns c =
    let part-is : c.stretch-given.result.now ≡ (taken c.args.p c.args.a.now c.args.earlier.now).coeffs =
    within-is c.requires.fact_2 c.stretch-given.ensures in
    rw (part-is) at c.plain_put.ensures
