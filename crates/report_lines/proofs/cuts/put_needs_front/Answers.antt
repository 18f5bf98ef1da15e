use Rattle.report_lines.specs.Puts.{puts_then}
use Rattle.model_texts.specs.Report.{needs_front}
use Rattle.report_lines.proofs.cuts.put_needs_front.Goals as goal

pub returns : goal.returns
unfolding needs_front
returns c =
    puts_then c.put_variable-a.ensures (puts_then
    c.put_need-b.ensures c.put_break.ensures)
