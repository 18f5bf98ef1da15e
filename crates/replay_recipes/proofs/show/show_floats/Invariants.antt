use lib.ListN.{length}
use Prim.Native.Nat.{◌≤◌, ◌-◌}
use Rattle.replay_recipes.proofs.show.show_floats.Given as goal

abbrev pub invariant-loop-k : goal.invariant-loop-k
invariant-loop-k g l = l.k ≤ length l.xs

abbrev pub decreases-loop-k : goal.decreases-loop-k
decreases-loop-k g l = length l.xs - l.k
