use Rattle.std.proofs.Common.{ap, arith}
use Rattle.lists.specs.Table.{filled_none, filled_more}
use Rattle.lists.specs.Fill.{filled-here}
use lib.Ieee.{nan, neg}
use Rattle.blocks.proofs.turn.Goals as goal

pub loop-x-init : goal.loop-x-init
loop-x-init c = filled_none

pub loop-x-preserved : goal.loop-x-preserved
loop-x-preserved c = filled_more c.loop-x.invariant (ap neg (filled-here nan c.loop-x.invariant (omega arith))) (omega arith)
