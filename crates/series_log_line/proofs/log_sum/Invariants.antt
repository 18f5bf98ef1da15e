use Prim.Native.Nat.{◌-◌, ◌≤◌}
use Rattle.lists.specs.Walk.{Walked}
use Rattle.model.specs.Refusals.{zero_f}
use Rattle.series_log_line.specs.Line.{line_term}
use Rattle.series_log_line.proofs.log_sum.Given as goal

abbrev pub invariant-loop-j : goal.invariant-loop-j
invariant-loop-j l = (l.j - l.lo ≤ l.k - l.lo) × Walked (line_term l.xs l.done l.k) l.lo l.j zero_f l.sum
