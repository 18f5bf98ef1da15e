use Rattle.lists.specs.Bytes.{bytes}
use Rattle.report_lines.specs.Puts.{puts_then}
use Rattle.model_texts.specs.Report.{fields_text}
use Rattle.report_lines.proofs.lines.put_fields.Goals as goal

pub returns : goal.returns
unfolding fields_text bytes
returns c =
    rw (← c.uses_in-u.ensures, ← c.step_of-s.ensures)
    (puts_then c.tell_if-a.ensures (puts_then c.tell_if-b.ensures
    (puts_then c.tell_if-c.ensures c.tell_if.ensures)))
