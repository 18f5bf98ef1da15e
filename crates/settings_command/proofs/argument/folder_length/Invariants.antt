use Prim.Native.Nat.{◌+◌, ◌≤◌}
use mathlib.Core.Bool.{cond}
use lib.Dec.{eqb}
use lib.ListN.{get_or}
use Rattle.lists.specs.Walk.{Walked}
use Rattle.settings_command.proofs.argument.folder_length.Given as goal

abbrev pub invariant-loop-k : goal.invariant-loop-k
invariant-loop-k l = (l.n ≤ l.k) × Walked (λ p m. cond (eqb (get_or l.path p 0) 47) (p + 1) m) 0 l.k 0 l.n
