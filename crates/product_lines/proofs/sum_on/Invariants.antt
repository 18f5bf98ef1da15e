use Prim.Native.Nat.{◌-◌, ◌≤◌}
use Rattle.lists.specs.Walk.{Walked}
use Rattle.model.specs.General.{term}
use Rattle.product_lines.proofs.sum_on.Given as goal

abbrev pub invariant-loop-j : goal.invariant-loop-j
invariant-loop-j l = (l.j - l.a ≤ l.b - l.a) × Walked (term l.xs l.ys l.k) l.a l.j l.acc l.sum
