use Rattle.lists.specs.Bytes.{bytes}
use Rattle.report_lines.specs.Puts.{puts_then}
use Rattle.model_faults.specs.Broken.{line_fault}
use Rattle.report_broken.proofs.line.put_line_fault.Goals as goal

pub returns : goal.returns
unfolding line_fault bytes
returns c =
    puts_then c.tell-a.ensures (puts_then
    c.put-b.ensures c.put_line_cause.ensures)
