use mathlib.Core.Path.{sym, ◌∙◌}
use Rattle.recipes_placing.specs.Reading.{looking-found, looking_on, looking_end}
use Rattle.recipes_placing.proofs.last_reader.Goals as goal
use Rattle.recipes_placing.proofs.last_reader.Goals.{then-is_read, else-is_read}

pub loop-i-preserved : goal.loop-i-preserved
loop-i-preserved c =
    elim c.if-is_read.branch [
      | then-is_read w ↦ rw w.last-is (looking-found c.loop-i.invariant c.loop-i-test.true (sym c.is_read.ensures ∙ w.if-is_read.true))
      | else-is_read w ↦ rw w.last-is (looking_on c.loop-i.invariant c.loop-i-test.true (sym c.is_read.ensures ∙ w.if-is_read.false))
    ]

pub returns : goal.returns
returns c = looking_end c.loop-i.invariant c.loop-i-test.false
