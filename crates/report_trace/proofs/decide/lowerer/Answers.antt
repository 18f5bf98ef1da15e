use native.Mathlib.Omega.{arith}
use Rattle.lists.specs.Walk.{walked_none, walked_more, walked_end}
use Rattle.model_texts.specs.Trace.{lowerer}
use Rattle.report_trace.proofs.decide.lowerer.Goals as goal

pub loop-init : goal.loop-init
loop-init c = walked_none _ 0 _

pub loop-preserved : goal.loop-preserved
loop-preserved c = walked_more c.loop.invariant c.seek-place.ensures

pub returns : goal.returns
unfolding lowerer
returns c = walked_end 64 c.loop.invariant (omega arith)
