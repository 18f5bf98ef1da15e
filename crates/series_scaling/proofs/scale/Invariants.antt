use lib.ListN.{get_or}
use lib.Ieee.{nan, mul, binary64}
use Rattle.lists.specs.Table.{Filled}
use Rattle.model.specs.Constructed.{whole_f}
use Rattle.series_scaling.proofs.scale.Given as goal

abbrev pub invariant-loop-i : goal.invariant-loop-i
invariant-loop-i l = Filled l.i (λ p. mul binary64 (get_or l.a p nan) (whole_f l.k)) l.initial.to l.to
