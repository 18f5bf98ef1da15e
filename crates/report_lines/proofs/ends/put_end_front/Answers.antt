use Rattle.lists.specs.Bytes.{bytes}
use Rattle.report_lines.specs.Puts.{puts_then}
use Rattle.model_texts.specs.Report.{end_front}
use Rattle.report_lines.proofs.ends.put_end_front.Goals as goal

pub returns : goal.returns
unfolding end_front bytes
returns c =
    puts_then c.tell-a.ensures (puts_then c.put-b.ensures c.put_limit.ensures)
