use Rattle.lists.specs.Bytes.{bytes}
use Rattle.report_lines.specs.Puts.{puts_then}
use Rattle.model_texts.specs.Report.{place_text}
use Rattle.report_lines.proofs.lines.put_place.Goals as goal

pub returns : goal.returns
unfolding place_text bytes
returns c =
    rw (← c.head_at.ensures)
    (puts_then c.tell-a.ensures (puts_then c.put-b.ensures
    (puts_then c.put_what-c.ensures
    c.put_shape.ensures)))
