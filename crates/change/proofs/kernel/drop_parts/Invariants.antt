use Rattle.product_linear.specs.Raised.{Along}
use Rattle.change.specs.Drop.{dropped_flat}
use Prim.Native.Nat.{◌-◌, ◌≤◌}
use lib.ListN.{length}
use Rattle.lists.specs.Table.{Filled}
use Rattle.change.proofs.kernel.drop_parts.Given as goal

abbrev pub invariant-loop-at : goal.invariant-loop-at
invariant-loop-at l = Along l.width l.step l.from l.at × ((l.at ≤ length l.initial.to) × Filled l.at (dropped_flat l.all l.s l.m l.width
    l.step l.a) l.initial.to l.to)

abbrev pub decreases-loop-at : goal.decreases-loop-at
decreases-loop-at l = length l.initial.to - l.at
