use native.Mathlib.Omega.{arith}
use Rattle.report_lines.specs.Puts.{putting-none, putting-more, putting_end}
use Rattle.settings_text.specs.Text.{departments_text}
use Rattle.settings_text.proofs.line.put_departments.Goals as goal

pub loop-d-init : goal.loop-d-init
loop-d-init c = putting-none _ 32 _ _

pub loop-d-preserved : goal.loop-d-preserved
loop-d-preserved c =
    putting-more c.loop-d.invariant (omega arith)
    c.put_department-next.auto.to c.put_department-next.ensures

pub shape_of-to : goal.shape_of-to
shape_of-to c = c.loop-d.invariant.len

pub returns : goal.returns
unfolding departments_text
returns c = putting_end c.loop-d.invariant (omega arith)
