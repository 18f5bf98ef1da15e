use Rattle.report_lines.specs.Puts.{puts_then}
use Rattle.lists.specs.Bytes.{bytes}
use Rattle.settings_text.specs.Text.{department_text}
use Rattle.settings_text.proofs.line.put_department.Goals as goal

pub returns : goal.returns
unfolding department_text bytes
returns c =
    puts_then c.tell-a.ensures
    (puts_then c.tell-b.ensures (rw c.slot.ensures at c.put_content.ensures))
