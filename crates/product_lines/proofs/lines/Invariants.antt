use Prim.Native.Nat.{◌-◌, ◌≤◌}
use Rattle.lists.specs.Table.{Filled}
use Rattle.product_lines.specs.Added.{line_added}
use Rattle.product_lines.proofs.lines.Given as goal

abbrev pub invariant-loop-k : goal.invariant-loop-k
invariant-loop-k l = (l.k ≤ l.n) × Filled l.k (line_added l.xs l.ys l.nx l.ny l.initial.res) l.initial.res l.res

abbrev pub decreases-loop-k : goal.decreases-loop-k
decreases-loop-k l = l.n - l.k
