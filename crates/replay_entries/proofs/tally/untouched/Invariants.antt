use Prim.Native.Nat.{ℕ, ◌<◌}
use mathlib.Core.Path.{◌≡◌}
use mathlib.Core.Bool.{true}
use Rattle.replay_entries.specs.Tally.{untouched_at}
use Rattle.replay_entries.proofs.tally.untouched.Given as goal

abbrev pub invariant-loop-k : goal.invariant-loop-k
invariant-loop-k l = (j : ℕ) → j < l.k → untouched_at l.xs j ≡ true
