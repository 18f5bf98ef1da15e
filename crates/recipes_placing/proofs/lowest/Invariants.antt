use Prim.Native.Nat.{◌-◌, ◌+◌, ◌*◌}
use lib.ListN.{length}
use Prim.Native.Nat.{◌-◌, ◌+◌, ◌*◌}
use lib.ListN.{length}
use Rattle.model_placing.specs.Placing.{highest}
use Rattle.recipes_placing.specs.Climb.{Climb}
use Rattle.recipes_placing.proofs.lowest.Given as goal

abbrev pub invariant-loop-j : goal.invariant-loop-j
invariant-loop-j l = Climb l.lasts l.counts l.offsets l.count l.at l.j

abbrev pub decreases-loop-j : goal.decreases-loop-j
decreases-loop-j l = (highest l.offsets l.counts - l.at) * 65 + (length l.offsets - l.j)
