use Prim.Native.Nat.{◌-◌, ◌≤◌}
use Rattle.lists.specs.Four.{at}
use Rattle.model.specs.Places.{index}
use Rattle.shape_words.specs.InRow.{in_row}
use Rattle.product_general.specs.Product.{step_at}
use Rattle.product_general.specs.Pairs.{Paired}
use Rattle.quotient_levels.proofs.taken_by_rows.Given as goal

abbrev pub invariant-loop-j : goal.invariant-loop-j
invariant-loop-j l = (l.j - l.lo ≤ l.k - l.lo) × Paired (in_row l.r l.v) (λ q. step_at l.r l.ly l.r (index l.r q) l.v l.k (at l.sr l.v)
    (at l.sy l.v) l.done l.ys) l.lo l.j l.initial.row
    l.row
