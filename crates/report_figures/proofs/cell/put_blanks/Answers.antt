use mathlib.Core.Path.{refl, ◌∙◌}
use native.Mathlib.Omega.{arith}
use Rattle.lists.specs.Table.{table}
use Rattle.report_lines.specs.Puts.{puts_none}
use Rattle.report_figures.specs.Fill.{puts-blank}
use Rattle.report_figures.proofs.cell.put_blanks.Goals as goal

pub loop-init : goal.loop-init
unfolding table
loop-init c = record { most = omega arith; len = refl; put = puts_none _ _ }

pub loop-preserved : goal.loop-preserved
loop-preserved c =
    record {
      most = omega arith;
      len = c.put-next.auto.to ∙ c.loop.invariant.len;
      put = puts-blank _ c.loop.invariant.put c.put-next.ensures;
    }
