use Rattle.lists.specs.Walk.{Walked}
use Rattle.model.specs.Refusals.{zero_f}
use Rattle.readings_sums.specs.Sums.{plus_at}
use Rattle.readings_sums.proofs.sum_to.Given as goal

abbrev pub invariant-loop-i : goal.invariant-loop-i
invariant-loop-i l = Walked (plus_at l.a) 0 l.i zero_f l.sum
