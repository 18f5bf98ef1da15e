use Rattle.std.proofs.Common.{get_or}
use lib.Ieee.{nan, mul, binary64}
use Rattle.lists.specs.Table.{Filled}
use Rattle.change_factors.proofs.scale_row.Given as goal

abbrev pub invariant-loop-k : goal.invariant-loop-k
invariant-loop-k l = Filled l.k (λ k. mul binary64 (get_or l.a k nan) l.factor) l.initial.to l.to
