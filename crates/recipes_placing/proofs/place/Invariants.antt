use Rattle.recipes_placing.specs.Going.{Going}
use Rattle.recipes_placing.proofs.place.Given as goal

abbrev pub invariant-loop-i : goal.invariant-loop-i
invariant-loop-i l = Going l.lasts l.counts l.initial.starts l.starts l.top l.i
