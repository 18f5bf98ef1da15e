use Rattle.lists.specs.Walk.{walked_none, walked_more, walked_end}
use Rattle.model_texts.specs.Trace.{decider}
use native.Mathlib.Omega.{arith}
use Rattle.report_trace.proofs.decide.decider.Goals as goal

pub loop-init : goal.loop-init
loop-init c = walked_none _ 0 _

pub loop-preserved : goal.loop-preserved
loop-preserved c = walked_more c.loop.invariant c.follow-place.ensures

pub returns : goal.returns
unfolding decider
returns c = walked_end 64 c.loop.invariant (omega arith)
