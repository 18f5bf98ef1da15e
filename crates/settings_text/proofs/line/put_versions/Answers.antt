use native.Mathlib.Omega.{arith}
use Rattle.report_lines.specs.Puts.{putting-none, putting-more, putting_end}
use Rattle.settings_text.specs.Text.{versions_text}
use Rattle.settings_text.proofs.line.put_versions.Goals as goal

pub loop-k-init : goal.loop-k-init
loop-k-init c = putting-none _ 8 _ _

pub loop-k-preserved : goal.loop-k-preserved
loop-k-preserved c =
    putting-more c.loop-k.invariant (omega arith)
    c.put_kept-next.auto.to c.put_kept-next.ensures

pub shape_of-to : goal.shape_of-to
shape_of-to c = c.loop-k.invariant.len

pub returns : goal.returns
unfolding versions_text
returns c = putting_end c.loop-k.invariant (omega arith)
