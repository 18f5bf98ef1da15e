use Rattle.std.proofs.Common.{◌≡◌, ◌+◌, ◌-◌, ◌*◌, ◌≤◌, length}
use Rattle.lists.specs.Four.{at}
use Rattle.quotient_lessening.specs.Laid.{Laid}
use Rattle.quotient_levels.specs.Levels.{rows_laid}
use Rattle.quotient_levels.proofs.+each_row_level.Given as goal

abbrev pub decreases-each_row : goal.decreases-each_row
decreases-each_row l = 2 * (4 - l.v)

abbrev pub decreases-level : goal.decreases-level
decreases-level l = 2 * (4 - l.v) + 1

abbrev pub invariant-each_row-loop-k : goal.invariant-each_row-loop-k
invariant-each_row-loop-k l =
    (length l.row ≡ length l.initial.row) × Laid l.q (rows_laid l.ly l.r l.v l.p l.e l.b l.f l.initial.work l.k) l.e l.initial.work l.work
