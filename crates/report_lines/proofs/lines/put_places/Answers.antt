use native.Mathlib.Omega.{arith}
use Rattle.report_lines.specs.Puts.{putting-none, putting-more}
use Rattle.report_lines.proofs.lines.put_places.Goals as goal

pub loop-p-init : goal.loop-p-init
loop-p-init c = putting-none _ _ _ _

pub loop-p-preserved : goal.loop-p-preserved
loop-p-preserved c =
    putting-more c.loop-p.invariant
    c.loop-p-test.true (omega arith) c.put_place-next.ensures
