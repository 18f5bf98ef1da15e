use native.Mathlib.Omega.{arith}
use Rattle.report_lines.specs.Puts.{puts_clipped}
use Rattle.report_lines.proofs.put.put.Goals as goal

pub returns : goal.returns
returns c = puts_clipped _ (omega arith) (rw c.least-n.ensures at c.put_bytes.ensures)
