use Rattle.lists.specs.Bytes.{bytes}
use Rattle.report_lines.specs.Puts.{puts_then}
use Rattle.model_texts.specs.Report.{falls_text}
use Rattle.report_lines.proofs.cuts.put_falls.Goals as goal

pub returns : goal.returns
unfolding falls_text bytes
returns c =
    puts_then c.tell-a.ensures (puts_then c.tell-b.ensures
    (puts_then c.tell-c.ensures (puts_then
    c.tell-d.ensures c.put.ensures)))
