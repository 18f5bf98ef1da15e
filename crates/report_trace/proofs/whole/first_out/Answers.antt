use mathlib.Core.Path.{ap, ◌∙◌}
use native.Mathlib.Omega.{arith}
use Rattle.report_trace.specs.Traced.{grown-none, grown-more, grown_end}
use Rattle.model_texts.specs.Whole.{first_next, firsts}
use Rattle.report_trace.proofs.whole.first_out.Goals as goal

pub loop-k-init : goal.loop-k-init
loop-k-init c = grown-none _ _

pub loop-k-preserved : goal.loop-k-preserved
loop-k-preserved c = grown-more c.loop-k.invariant c.first_next.ensures (omega arith)

pub returns : goal.returns
unfolding firsts
returns c =
    c.first_next-2.ensures ∙ ap (first_next _ _ _ _) (grown_end c.loop-k.invariant (omega arith) (omega arith))
