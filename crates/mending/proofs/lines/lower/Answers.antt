use Rattle.model_mending.specs.Lines.{lowered}
use Rattle.mending.proofs.lines.lower.Goals as goal

pub returns-then-b : goal.returns-then-b
unfolding lowered
returns-then-b c = rw c.if-b.true

pub returns-else-b : goal.returns-else-b
unfolding lowered
returns-else-b c = rw c.if-b.false
