use Rattle.report_lines.specs.Puts.{puts_none}
use Rattle.report_header.proofs.put_named.Goals as goal

pub returns-then-cause : goal.returns-then-cause
returns-then-cause c = rw c.if-cause.true c.put_number.ensures

pub returns : goal.returns
returns c = rw c.if-cause.false (puts_none _ _)
