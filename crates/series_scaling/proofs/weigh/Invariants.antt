use Rattle.lists.specs.Table.{Filled}
use Rattle.series_scaling.specs.Weighed.{weighed_at}
use Rattle.series_scaling.proofs.weigh.Given as goal

abbrev pub invariant-loop-i : goal.invariant-loop-i
invariant-loop-i l = Filled l.i (weighed_at l.t l.xs) l.initial.to l.to
