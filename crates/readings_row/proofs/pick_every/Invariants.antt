use Rattle.readings_row.specs.Stretches.{Going}
use Rattle.readings_row.proofs.pick_every.Given as goal

abbrev pub invariant-loop-x : goal.invariant-loop-x
invariant-loop-x l = Going l.a l.from 1 l.step l.initial.to l.to l.x-index l.at
