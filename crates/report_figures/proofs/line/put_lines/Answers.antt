use mathlib.Core.Path.{refl, ◌∙◌}
use native.Mathlib.Omega.{arith}
use Rattle.model_texts.specs.Report.{joined}
use Rattle.report_lines.specs.Puts.{puts_none, puts-joined}
use Rattle.report_figures.proofs.line.put_lines.Goals as goal

pub loop-p-init : goal.loop-p-init
unfolding joined
loop-p-init c = record { most = omega arith; len = refl; put = puts_none _ _ }

pub loop-p-preserved : goal.loop-p-preserved
loop-p-preserved c =
    record {
      most = omega arith;
      len = c.put_figure-next.auto.to
          ∙ c.loop-p.invariant.len;
      put = puts-joined _ _ c.loop-p.invariant.put c.put_figure-next.ensures;
    }
