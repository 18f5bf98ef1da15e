use mathlib.Core.Path.{refl, ◌∙◌}
use native.Mathlib.Omega.{arith}
use Rattle.model_texts.specs.Report.{joined}
use Rattle.report_lines.specs.Puts.{puts_none, puts-joined}
use Rattle.report_figures.proofs.line.put_parts.Goals as goal

pub loop-v-init : goal.loop-v-init
unfolding joined
loop-v-init c = record { most = omega arith; len = refl; put = puts_none _ _ }

pub loop-v-preserved : goal.loop-v-preserved
loop-v-preserved c =
    record {
      most = omega arith;
      len = c.put_part-next.auto.to
          ∙ c.loop-v.invariant.len;
      put = puts-joined _ _ c.loop-v.invariant.put c.put_part-next.ensures;
    }
