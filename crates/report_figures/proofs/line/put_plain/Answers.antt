use Rattle.report_lines.specs.Puts.{puts_then}
use Rattle.lists.specs.Bytes.{bytes}
use Rattle.model_figures.specs.Figures.{plain_line}
use Rattle.report_figures.proofs.line.put_plain.Goals as goal

pub returns : goal.returns
unfolding plain_line bytes
returns c =
    puts_then c.put_place-a.ensures (puts_then
    c.put_float-b.ensures
    c.put.ensures)
