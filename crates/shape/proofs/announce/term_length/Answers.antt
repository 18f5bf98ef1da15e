use borrow.Author.Tests.{eq-eqb, ne_eqb}
use Rattle.shape.proofs.announce.term_length.Goals as goal

pub returns-then-k-v : goal.returns-then-k-v
returns-then-k-v c = simp (eq-eqb _ _ c.if-k-v.true)

pub returns-else-k-v : goal.returns-else-k-v
returns-else-k-v c = simp (ne_eqb _ _ c.if-k-v.false)
