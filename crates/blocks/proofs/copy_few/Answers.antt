use mathlib.Core.Path.{refl, ◌∙◌}
use lib.Ieee.{nan}
use Rattle.std.proofs.Common.{arith}
use Rattle.lists.specs.Table.{filled_none, filled_more, table-take}
use Rattle.lists.specs.Fill.{filled-all}
use Rattle.blocks.proofs.copy_few.Goals as goal

pub loop-k-init : goal.loop-k-init
loop-k-init c = filled_none

pub loop-k-preserved : goal.loop-k-preserved
loop-k-preserved c = filled_more c.loop-k.invariant refl (omega arith)

pub returns : goal.returns
returns c = filled-all c.loop-k.invariant (omega arith) (omega arith) ∙ table-take nan _ _ (omega arith)
