use Prim.Native.Nat.{◌-◌}
use lib.ListN.{length}
use Rattle.readings_row.specs.Stretches.{Going}
use Rattle.readings_row.proofs.pick_stretches.Given as goal

abbrev pub invariant-loop-k : goal.invariant-loop-k
invariant-loop-k l = Going l.a l.from l.width l.step l.initial.to l.to l.k l.at

abbrev pub decreases-loop-k : goal.decreases-loop-k
decreases-loop-k l = length l.initial.to - l.k
