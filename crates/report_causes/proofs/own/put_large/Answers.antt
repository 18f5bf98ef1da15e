use Rattle.lists.specs.Bytes.{bytes}
use Rattle.report_lines.specs.Puts.{puts_then}
use Rattle.model_faults.specs.Own.{large_fault}
use Rattle.report_causes.proofs.own.put_large.Goals as goal

pub returns : goal.returns
unfolding large_fault bytes
returns c =
    rw (← c.line_of.ensures) (puts_then
    c.put_where-next.ensures c.say.ensures)
