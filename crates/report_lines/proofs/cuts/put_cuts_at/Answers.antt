use native.Mathlib.Omega.{arith}
use Rattle.report_lines.specs.Puts.{putting-none, putting-more, putting_end}
use Rattle.model_texts.specs.Report.{cuts_text}
use Rattle.report_lines.proofs.cuts.put_cuts_at.Goals as goal

pub loop-v-init : goal.loop-v-init
loop-v-init c = putting-none _ _ _ _

pub loop-v-preserved : goal.loop-v-preserved
loop-v-preserved c =
    putting-more c.loop-v.invariant
    c.loop-v-test.true (omega arith) c.put_cut-next.ensures

pub returns : goal.returns
unfolding cuts_text
returns c = putting_end c.loop-v.invariant c.loop-v-test.false
