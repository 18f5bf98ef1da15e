use Rattle.lists.specs.Bytes.{bytes}
use Rattle.report_lines.proofs.why.put_break.Goals as goal

pub returns : goal.returns
unfolding bytes
returns c = c.put_either.ensures
