use borrow.Author.Tests.{lt-ltb, le-ltb}
use Rattle.model.proofs.limit_or_one.Goals as goal

pub returns-then-k-vars : goal.returns-then-k-vars
returns-then-k-vars c = simp (lt-ltb _ _ c.if-k-vars.true)

pub returns-else-k-vars : goal.returns-else-k-vars
returns-else-k-vars c = simp (le-ltb _ _ c.if-k-vars.false)
