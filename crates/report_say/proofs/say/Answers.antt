use Rattle.report_lines.specs.Puts.{puts_then}
use Rattle.report_say.proofs.say.Goals as goal

pub returns : goal.returns
returns c = puts_then c.tell-next.ensures c.put.ensures
