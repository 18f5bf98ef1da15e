use Rattle.lists.specs.Bytes.{bytes}
use Rattle.report_lines.specs.Puts.{puts_then}
use Rattle.model_texts.specs.Report.{end_line}
use Rattle.report_lines.proofs.ends.put_end_line.Goals as goal

pub returns : goal.returns
unfolding end_line bytes
returns c =
    rw (← c.limit_at.ensures, ← c.source_of.ensures)
    (puts_then c.put_end_front-a.ensures
    (puts_then c.put_break-b.ensures (puts_then c.put_decider-c.ensures
    (puts_then c.put-d.ensures (puts_then
    c.put_further-e.ensures
    c.put.ensures)))))
