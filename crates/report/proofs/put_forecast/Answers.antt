use native.Mathlib.Omega.{arith}
use mathlib.Core.Path.{sym}
use lib.Seq.{length-take-le}
use Rattle.report_lines.specs.Puts.{puts_then}
use Rattle.model_forecast.specs.Told.{forecast_text}
use Rattle.report.proofs.put_forecast.Goals as goal

pub slice_bounds-put_limit_lines-end : goal.slice_bounds-put_limit_lines-end
slice_bounds-put_limit_lines-end c = sym (length-take-le _ _ (omega (arith, c.requires.fit)))

pub slice_bounds-put_verdict-end : goal.slice_bounds-put_verdict-end
slice_bounds-put_verdict-end c =
    sym (length-take-le _ _ (omega (
      arith,
      c.requires.fit,
    )))

pub slice_bounds-put_reckoned-end : goal.slice_bounds-put_reckoned-end
slice_bounds-put_reckoned-end c =
    sym (length-take-le _ _ (omega (
      arith,
      c.requires.fit,
    )))

pub returns : goal.returns
unfolding forecast_text
returns c =
    rw (← c.fulls-full.ensures) (puts_then c.put_limit_lines-a.ensures (puts_then c.put_inputs-b.ensures (puts_then c.put_verdict-c.ensures
    c.put_reckoned.ensures)))
