use Rattle.report_lines.specs.Puts.{puts_then}
use Rattle.model_texts.specs.Cause.{cause_text}
use Rattle.report_header.proofs.put_cause.Goals as goal

pub returns : goal.returns
unfolding cause_text
returns c =
    puts_then c.put_front-a.ensures (puts_then c.put_named-b.ensures c.put_back.ensures)
