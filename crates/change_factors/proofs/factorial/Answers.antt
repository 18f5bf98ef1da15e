use Rattle.std.proofs.Common.{refl}
use Rattle.lists.specs.Walk.{walked_none, walked_more}
use Rattle.change_factors.proofs.factorial.Goals as goal

pub loop-i-init : goal.loop-i-init
loop-i-init c = walked_none _ 1 _

pub loop-i-preserved : goal.loop-i-preserved
loop-i-preserved c = walked_more c.loop-i.invariant refl
