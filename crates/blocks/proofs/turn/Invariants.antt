use Rattle.lists.specs.Table.{Filled}
use Rattle.model.specs.Negate.{negated_at}
use Rattle.blocks.proofs.turn.Given as goal

abbrev pub invariant-loop-x : goal.invariant-loop-x
invariant-loop-x l = Filled l.x-index (negated_at l.initial.to) l.initial.to l.to
