use Rattle.decimals.specs.Rounded.{rounded_halves}
use Rattle.decimals.proofs.part.rounded.Goals as goal

pub returns-then-halves-rest : goal.returns-then-halves-rest
unfolding rounded_halves
returns-then-halves-rest c = rw c.if-halves-rest.true

pub returns : goal.returns
unfolding rounded_halves
returns c = rw c.if-halves-rest.false
