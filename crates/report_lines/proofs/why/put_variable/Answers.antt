use Rattle.lists.specs.Bytes.{bytes}
use Rattle.report_lines.specs.Puts.{puts_then}
use Rattle.report_lines.proofs.why.put_variable.Goals as goal

pub returns : goal.returns
unfolding bytes
returns c = puts_then c.tell-next.ensures c.tell.ensures
