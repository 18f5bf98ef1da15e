use native.Mathlib.Omega.{arith}
use Rattle.lists.specs.Every.{passing-none, passing-more, passing-stop, passing_end}
use Rattle.settings_store.specs.Loops.{slot-test, department-is, department_no}
use Rattle.settings_store.proofs.test.good_department.Goals as goal

pub returns-then-v-gt4294967295 : goal.returns-then-v-gt4294967295
returns-then-v-gt4294967295 c = department_no _ _ c.if-v-gt4294967295.true

pub loop-k-init : goal.loop-k-init
loop-k-init c = (omega arith, passing-none _ 8 0)

pub returns-then-not-good_slot : goal.returns-then-not-good_slot
returns-then-not-good_slot c =
    department-is _ _ c.loop-k.invariant.0
    (passing-stop c.loop-k.invariant.1 (omega arith)
    (slot-test _ _ _ c.loop-k.k c.good_slot.ensures c.slot.ensures
    c.if-not-good_slot.true))

pub loop-k-preserved : goal.loop-k-preserved
loop-k-preserved c = (
  c.loop-k.invariant.0,
  passing-more c.loop-k.invariant.1 (omega arith)
      (slot-test _ _ _ c.loop-k.k c.good_slot.ensures c.slot.ensures
      c.if-not-good_slot.false),
)

pub returns : goal.returns
returns c = department-is _ _ c.loop-k.invariant.0 (passing_end c.loop-k.invariant.1 (omega arith))
