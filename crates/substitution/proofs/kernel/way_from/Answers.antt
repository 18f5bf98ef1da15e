use mathlib.Core.Path.{◌≡◌, ap, ◌∙◌}
use mathlib.Core.List.{List}
use lib.ListN.{length}
use lib.Ieee.{Float}
use Rattle.model.specs.Header.{stored}
use Rattle.model.specs.Poly.{block}
use Rattle.shape_words.specs.Lengths.{lengths_of_lem}
use Rattle.shape_operands.specs.Operand.{taken, within-full, within-ends, within-is}
use Rattle.substitution_way.specs.Way.{way_of}
use Rattle.substitution.proofs.kernel.way_from.Goals as goal

pub stretch-put-requires : goal.stretch-put-requires
stretch-put-requires c = within-ends c.requires.fact_2

pub choose-requires : goal.choose-requires
choose-requires c =
    let part-is : c.stretch-put.result.now ≡ (taken c.args.q c.args.b.now c.args.earlier.now).coeffs =
    within-is c.requires.fact_2 c.stretch-put.ensures in
    let part-full : length c.stretch-put.result.now ≡ stored c.args.q.head =
    ap length (part-is) ∙ within-full c.requires.fact_2 in
    record { fact_1 = lengths_of_lem c.requires.fact_1; fact_2 = part-full }

pub returns : goal.returns
returns c =
    let part-is : c.stretch-put.result.now ≡ (taken c.args.q c.args.b.now c.args.earlier.now).coeffs =
    within-is c.requires.fact_2 c.stretch-put.ensures in
    c.choose.ensures ∙ ap (λ (l : List Float). way_of c.args.vars c.args.v (block c.args.q.head.lengths l)) (part-is)
