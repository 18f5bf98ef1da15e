use Rattle.std.proofs.Common.{get_or}
use lib.Ieee.{nan, add, binary64}
use Rattle.lists.specs.Table.{Filled}
use Rattle.change_sums.proofs.add_to_row.Given as goal

abbrev pub invariant-loop-k : goal.invariant-loop-k
invariant-loop-k l = Filled l.k (λ k. add binary64 (get_or l.row k nan) (get_or l.initial.to k nan)) l.initial.to l.to
