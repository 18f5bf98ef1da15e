use Rattle.model.specs.Announced.{announced}
use borrow.Author.Tests.{eq-eqb, ne_eqb}
use Rattle.shape.proofs.announce.power_header.Goals as goal

pub returns-then-e-eq0 : goal.returns-then-e-eq0
unfolding announced
returns-then-e-eq0 c = simp (eq-eqb _ _ c.if-e-eq0.true) c.none.ensures

pub returns-else-e-eq0 : goal.returns-else-e-eq0
unfolding announced
returns-else-e-eq0 c = simp (ne_eqb _ _ c.if-e-eq0.false) c.single_header.ensures
