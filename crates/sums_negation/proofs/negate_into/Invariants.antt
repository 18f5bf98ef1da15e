use Rattle.lists.specs.Table.{Filled}
use Rattle.model.specs.Negate.{negated_at}
use Rattle.sums_negation.proofs.negate_into.Given as goal

abbrev pub invariant-loop-i : goal.invariant-loop-i
invariant-loop-i l = Filled l.i (negated_at l.a) l.initial.out l.out
