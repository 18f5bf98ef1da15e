use Rattle.model.specs.Cap.{min_cap}
use borrow.Author.Tests.{eq-eqb, ne_eqb}
use Rattle.shape.proofs.limits.min_cap.Goals as goal

pub returns-then-a-eq0 : goal.returns-then-a-eq0
unfolding min_cap
returns-then-a-eq0 c = rw (eq-eqb c.args.a 0 c.if-a-eq0.true)

pub returns-then-b-eq0 : goal.returns-then-b-eq0
unfolding min_cap
returns-then-b-eq0 c = rw (ne_eqb c.args.a 0 c.if-a-eq0.false, eq-eqb c.args.b 0 c.if-b-eq0.true)

pub returns : goal.returns
unfolding min_cap
returns c =
    rw (ne_eqb c.args.a 0 c.if-a-eq0.false, ne_eqb c.args.b 0 c.if-b-eq0.false) c.least.ensures
