use Rattle.std.proofs.Common.{length, min, ◌-◌, ◌≤◌}
use Rattle.lists.specs.Every.{Passing}
use Rattle.blocks_mask.specs.Cleans.{clean_along}
use Rattle.blocks_mask.proofs.row_is_clean.Given as goal

abbrev pub invariant-loop-k : goal.invariant-loop-k
invariant-loop-k l = (min (l.cap - l.d) l.n ≤ l.k) × Passing (clean_along l.d l.cap l.of) (length l.of) 0 l.k
