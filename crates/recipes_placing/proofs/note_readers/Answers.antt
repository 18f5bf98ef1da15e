use native.Mathlib.Omega.{arith}
use Rattle.lists.specs.Table.{filled_none, filled_more}
use Rattle.model_placing.specs.Placing.{last_reader}
use Rattle.recipes_placing.proofs.note_readers.Goals as goal

pub loop-j-init : goal.loop-j-init
loop-j-init c = filled_none

pub loop-j-preserved : goal.loop-j-preserved
unfolding last_reader
loop-j-preserved c = filled_more c.loop-j.invariant c.last_reader.ensures (omega (arith, c.requires))
