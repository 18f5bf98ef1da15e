use native.Mathlib.Omega.{arith}
use Rattle.model.specs.Cap.{lower_cap}
use borrow.Author.Tests.{eq-eqb, ne_eqb}
use Rattle.shape.proofs.limits.lower_cap.Goals as goal

pub returns-then-c-eq0 : goal.returns-then-c-eq0
unfolding lower_cap
returns-then-c-eq0 c = rw (eq-eqb c.args.c 0 c.if-c-eq0.true)

pub returns-then-n-c : goal.returns-then-n-c
unfolding lower_cap
returns-then-n-c c = rw (ne_eqb c.args.c 0 c.if-c-eq0.false) (omega arith)

pub returns-else-n-c : goal.returns-else-n-c
unfolding lower_cap
returns-else-n-c c = rw (ne_eqb c.args.c 0 c.if-c-eq0.false) (omega arith)
