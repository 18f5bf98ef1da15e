use native.Mathlib.Omega.{arith}
use Rattle.report_lines.specs.Puts.{putting-none, putting-more}
use Rattle.report_inputs.proofs.put_each.Goals as goal

pub loop-i-init : goal.loop-i-init
loop-i-init c = putting-none _ _ _ _

pub loop-i-preserved : goal.loop-i-preserved
loop-i-preserved c =
    putting-more c.loop-i.invariant c.loop-i-test.true (omega arith) c.put_input-next.ensures
