use borrow.Author.Tests.{eq-eqb, ne_eqb}
use Rattle.shape.proofs.announce.series_length.Goals as goal

pub returns-then-a-eq1 : goal.returns-then-a-eq1
returns-then-a-eq1 c = simp (eq-eqb _ _ c.if-a-eq1.true)

pub returns-else-a-eq1 : goal.returns-else-a-eq1
returns-else-a-eq1 c = simp (ne_eqb _ _ c.if-a-eq1.false)
