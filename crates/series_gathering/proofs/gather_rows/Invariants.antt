use Prim.Native.Nat.{◌-◌, ◌≤◌}
use Rattle.shape_words.specs.InRow.{in_row}
use Rattle.product_general.specs.Pairs.{Paired}
use Rattle.series_gathering.specs.Gather.{pair_at}
use Rattle.series_gathering.proofs.gather_rows.Given as goal

abbrev pub invariant-loop-j : goal.invariant-loop-j
invariant-loop-j l = (l.j - l.lo ≤ l.hi - l.lo) × Paired (in_row l.r l.v) (pair_at l.back l.lx l.r l.v l.k l.xs l.ys) l.lo l.j l.initial.row l.row
