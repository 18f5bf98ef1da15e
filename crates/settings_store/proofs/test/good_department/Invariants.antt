use Prim.Native.Nat.{◌≤◌}
use Rattle.lists.specs.Every.{Passing}
use Rattle.settings_store.specs.Loops.{slot_test}
use Rattle.settings_store.proofs.test.good_department.Given as goal

abbrev pub invariant-loop-k : goal.invariant-loop-k
invariant-loop-k l = (l.v ≤ 4294967295) × Passing (slot_test l.words l.d l.v) 8 0 l.k
