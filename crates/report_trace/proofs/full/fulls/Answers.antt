use native.Mathlib.Omega.{arith}
use Rattle.report_trace.specs.Traced.{grown-none, grown-more, grown_end}
use Rattle.model_texts.specs.Full.{fulls}
use Rattle.report_trace.proofs.full.fulls.Goals as goal

pub loop-k-init : goal.loop-k-init
loop-k-init c = grown-none _ _

pub loop-k-preserved : goal.loop-k-preserved
loop-k-preserved c = grown-more c.loop-k.invariant c.full_next.ensures (omega arith)

pub returns : goal.returns
unfolding fulls
returns c = grown_end c.loop-k.invariant (omega arith) (omega arith)
