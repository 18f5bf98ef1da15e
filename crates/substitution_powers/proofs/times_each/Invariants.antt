use lib.ListN.{get_or}
use lib.Ieee.{nan, mul, binary64}
use Rattle.lists.specs.Table.{Filled}
use Rattle.substitution_powers.proofs.times_each.Given as goal

abbrev pub invariant-loop-place : goal.invariant-loop-place
invariant-loop-place l = Filled l.place-index (λ j. mul binary64 (get_or l.initial.to j nan) l.factor) l.initial.to l.to
