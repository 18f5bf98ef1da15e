use native.Mathlib.Omega.{arith}
use Rattle.report_lines.specs.Puts.{putting-none, putting-more}
use Rattle.report_lines.proofs.ends.put_ends.Goals as goal

pub loop-v-init : goal.loop-v-init
loop-v-init c = putting-none _ _ _ _

pub loop-v-preserved : goal.loop-v-preserved
loop-v-preserved c =
    putting-more c.loop-v.invariant
    c.loop-v-test.true (omega arith) c.put_end-next.ensures
