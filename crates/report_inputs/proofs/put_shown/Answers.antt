use native.Mathlib.Omega.{arith}
use Rattle.report_lines.specs.Puts.{putting-none, putting-more}
use Rattle.report_inputs.proofs.put_shown.Goals as goal

pub loop-k-init : goal.loop-k-init
loop-k-init c = putting-none _ _ _ _

pub loop-k-preserved : goal.loop-k-preserved
loop-k-preserved c =
    putting-more c.loop-k.invariant c.loop-k-test.true (omega arith) c.put_first-next.ensures
