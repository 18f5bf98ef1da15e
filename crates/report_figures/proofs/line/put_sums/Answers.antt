use mathlib.Core.Path.{sym, ap}
use lib.Ieee.{Float}
use Rattle.report_lines.specs.Puts.{puts_then}
use Rattle.model_decimals.specs.Text.{float_text}
use Rattle.model_figures.specs.Cells.{cell}
use Rattle.model_figures.specs.Figures.{sums_text}
use Rattle.report_figures.specs.Fill.{puts-is}
use Rattle.report_figures.proofs.line.put_sums.Goals as goal

pub returns-then-parts : goal.returns-then-parts
unfolding sums_text
returns-then-parts c =
    rw c.if-parts.true (puts_then (puts-is (ap (λ (x : Float). cell 29 20 (float_text x)) (sym c.sum_to-sum.ensures))
    c.put_cell-next.ensures) (puts-is (ap float_text (sym c.tail_at.ensures)) c.put_float.ensures))

pub returns : goal.returns
unfolding sums_text
returns c =
    rw c.if-parts.false (puts-is (ap float_text (sym c.sum_to-sum.ensures)) c.put_float-2.ensures)
