use Rattle.lists.specs.Bytes.{bytes}
use Rattle.report_lines.specs.Puts.{puts_then}
use Rattle.model_figures.specs.Figures.{sum_line}
use Rattle.report_figures.proofs.line.put_sum_line.Goals as goal

pub returns : goal.returns
unfolding sum_line bytes
returns c =
    puts_then c.put_place-a.ensures (puts_then c.put_cell-b.ensures (puts_then c.put_sums-c.ensures c.put.ensures))
