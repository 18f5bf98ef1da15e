use native.Mathlib.Omega.{arith}
use Rattle.lists.specs.Every.{passing-none, passing-more, passing-stop, passing_end}
use Rattle.settings_store.specs.Loops.{department-test, valid-is, valid_no}
use Rattle.settings_store.proofs.test.is_valid.Goals as goal

pub returns-then-words-lt544 : goal.returns-then-words-lt544
returns-then-words-lt544 c = valid_no _ c.if-words-lt544.true

pub loop-d-init : goal.loop-d-init
loop-d-init c = (omega arith, passing-none _ 32 0)

pub returns-then-not-good_department : goal.returns-then-not-good_department
returns-then-not-good_department c =
    valid-is _ c.loop-d.invariant.0
    (passing-stop c.loop-d.invariant.1 (omega arith)
    (department-test _ c.loop-d.d c.good_department.ensures c.if-not-good_department.true))

pub loop-d-preserved : goal.loop-d-preserved
loop-d-preserved c = (
  c.loop-d.invariant.0,
  passing-more c.loop-d.invariant.1 (omega arith)
      (department-test _ c.loop-d.d c.good_department.ensures c.if-not-good_department.false),
)

pub returns : goal.returns
returns c = valid-is _ c.loop-d.invariant.0 (passing_end c.loop-d.invariant.1 (omega arith))
