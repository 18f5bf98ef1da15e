use Rattle.std.proofs.Common.{arith, refl}
use Rattle.lists.specs.Walk.{walked_none, walked_more, walked_end}
use Rattle.model.specs.Readings.{sum_to}
use Rattle.readings_sums.proofs.sum_to.Goals as goal

pub loop-i-init : goal.loop-i-init
loop-i-init c = walked_none _ 0 _

pub loop-i-preserved : goal.loop-i-preserved
loop-i-preserved c = walked_more c.loop-i.invariant refl

pub returns : goal.returns
unfolding sum_to
returns c = walked_end c.args.n c.loop-i.invariant (omega arith)
