use lib.ListN.{get_or}
use lib.Ieee.{nan, div, binary64}
use Rattle.lists.specs.Table.{Filled}
use Rattle.model.specs.Constructed.{whole_f}
use Rattle.series_scaling.proofs.divide_by.Given as goal

abbrev pub invariant-loop-place : goal.invariant-loop-place
invariant-loop-place l = Filled l.place-index (λ p. div binary64 (get_or l.initial.to p nan) (whole_f l.k)) l.initial.to l.to
