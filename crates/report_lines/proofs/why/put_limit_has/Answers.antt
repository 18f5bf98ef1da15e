use Rattle.lists.specs.Bytes.{bytes}
use Rattle.report_lines.specs.Puts.{puts_then}
use Rattle.model_texts.specs.Report.{limit_has}
use Rattle.report_lines.proofs.why.put_limit_has.Goals as goal

pub returns : goal.returns
unfolding limit_has bytes
returns c =
    puts_then c.put_limit-a.ensures (puts_then c.put-b.ensures
    (puts_then c.put_decider-c.ensures
    c.put.ensures))
