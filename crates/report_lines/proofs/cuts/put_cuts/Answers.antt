use native.Mathlib.Omega.{arith}
use Rattle.report_lines.specs.Puts.{putting-none, putting-more}
use Rattle.report_lines.proofs.cuts.put_cuts.Goals as goal

pub loop-p-init : goal.loop-p-init
loop-p-init c = putting-none _ _ _ _

pub loop-p-preserved : goal.loop-p-preserved
loop-p-preserved c =
    putting-more c.loop-p.invariant
    c.loop-p-test.true (omega arith) c.put_cuts_at-next.ensures
