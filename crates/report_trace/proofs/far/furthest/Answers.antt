use mathlib.Core.Path.{ap, ◌∙◌}
use Rattle.report_trace.specs.Traced.{grown-none, grown-more, grown_end}
use Rattle.model_texts.specs.Trace.{furthest_next, furthests}
use native.Mathlib.Omega.{arith}
use Rattle.report_trace.proofs.far.furthest.Goals as goal

pub loop-k-init : goal.loop-k-init
loop-k-init c = grown-none _ _

pub loop-k-preserved : goal.loop-k-preserved
loop-k-preserved c = grown-more c.loop-k.invariant c.furthest_next.ensures (omega arith)

pub returns : goal.returns
unfolding furthests
returns c =
    c.furthest_next-2.ensures ∙ ap (furthest_next _ _ _ _) (grown_end c.loop-k.invariant (omega arith) (omega arith))
