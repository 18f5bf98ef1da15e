use Rattle.std.proofs.Common.{arith}
use Rattle.readings_sums.specs.First.{short_none, short-more, short-found, short_end}
use Rattle.readings_sums.proofs.least_at.Goals as goal

pub loop-k-init : goal.loop-k-init
loop-k-init c = short_none _ _

pub returns-then-q-sum : goal.returns-then-q-sum
returns-then-q-sum c = short-found _ _ c.loop-k.invariant _ c.loop-k-test.true c.if-q-sum.true

pub loop-k-preserved : goal.loop-k-preserved
loop-k-preserved c = short-more _ _ c.loop-k.invariant c.if-q-sum.false

pub returns : goal.returns
returns c = short_end _ _ c.loop-k.invariant _ (omega arith)
