use mathlib.Core.Path.{ap, ◌∙◌}
use native.Mathlib.Omega.{arith}
use Rattle.report_trace.specs.Traced.{grown-none, grown-more, grown_end}
use Rattle.model_forecast.specs.Mixed.{mixed_next, mixeds}
use Rattle.report_totals.proofs.mixed.first_mixed.Goals as goal

pub loop-k-init : goal.loop-k-init
loop-k-init c = grown-none _ _

pub loop-k-preserved : goal.loop-k-preserved
loop-k-preserved c = grown-more c.loop-k.invariant c.mixed_next.ensures (omega arith)

pub returns : goal.returns
unfolding mixeds
returns c =
    c.mixed_next-2.ensures ∙ ap (mixed_next _ _ _ _) (grown_end c.loop-k.invariant (omega arith)
    (omega arith))
