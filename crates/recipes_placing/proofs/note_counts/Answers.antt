use native.Mathlib.Omega.{arith}
use mathlib.Core.Path.{ap, ◌∙◌}
use Rattle.lists.specs.Table.{filled_none, filled_more}
use Rattle.model.specs.Header.{stored}
use Rattle.recipes_check.specs.Counts.{word_ruled}
use Rattle.recipes_placing.proofs.note_counts.Goals as goal

pub loop-j-init : goal.loop-j-init
loop-j-init c = filled_none

pub stored_of-requires : goal.stored_of-requires
stored_of-requires c =
    rw c.header_of.ensures (word_ruled c.args.words.now c.requires.fact_1 c.loop-j.j)

pub loop-j-preserved : goal.loop-j-preserved
loop-j-preserved c =
    filled_more c.loop-j.invariant (c.stored_of.ensures ∙ ap stored c.header_of.ensures) (omega (arith, c.requires.fact_2, c.loop-j-test.true))
