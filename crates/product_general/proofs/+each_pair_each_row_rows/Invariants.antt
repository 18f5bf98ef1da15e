use Rattle.std.proofs.Common.{ℕ, ◌+◌, ◌-◌, ◌*◌, ◌≤◌}
use Rattle.lists.specs.Four.{at}
use Rattle.lists.specs.Table.{Filled}
use Rattle.model.specs.Places.{index}
use Rattle.shape_words.specs.InRow.{in_row}
use Rattle.product_general.specs.Product.{step_at}
use Rattle.product_general.specs.Pairs.{Paired}
use Rattle.product_general.specs.Rows.{place_of}
use Rattle.product_general.proofs.+each_pair_each_row_rows.Given as goal

-- The variables left fall by one in each round of the three; the stage of the round breaks the tie.
abbrev pub decreases-each_pair : goal.decreases-each_pair
decreases-each_pair l = 3 * (4 - l.v)

abbrev pub decreases-each_row : goal.decreases-each_row
decreases-each_row l = 3 * (4 - l.v) + 1

abbrev pub decreases-rows : goal.decreases-rows
decreases-rows l = 3 * (4 - l.v) + 2

abbrev pub invariant-each_pair-loop-j : goal.invariant-each_pair-loop-j
invariant-each_pair-loop-j l =
    (l.j - l.lo ≤ l.hi - l.lo) × Paired (in_row l.r l.v) (λ q. step_at l.lx l.ly l.r (index l.r q) l.v l.k (at l.sx l.v) (at l.sy l.v) l.xs
    l.ys) l.lo l.j l.initial.row l.row

abbrev pub invariant-each_row-loop-k : goal.invariant-each_row-loop-k
invariant-each_row-loop-k l =
    Filled (l.k * at l.sr l.v) (place_of l.lx l.ly l.r l.v l.xs l.ys l.initial.res) l.initial.res l.res
