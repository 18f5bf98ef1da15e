use Rattle.std.proofs.Common.{refl, arith}
use Rattle.lists.specs.Table.{filled_none, filled_more}
use Rattle.change_factors.proofs.scale_row.Goals as goal

pub loop-k-init : goal.loop-k-init
loop-k-init c = filled_none

pub loop-k-preserved : goal.loop-k-preserved
loop-k-preserved c = filled_more c.loop-k.invariant refl (omega arith)
