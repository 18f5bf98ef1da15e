use borrow.Author.Tests.{eq-eqb, ne_eqb}
use native.Mathlib.Omega.{arith}
use Rattle.shape.proofs.announce.less_in.Goals as goal

pub returns-then-k-v : goal.returns-then-k-v
returns-then-k-v c = simp (ne_eqb _ _ c.if-k-v.true)

pub returns-then-d-x : goal.returns-then-d-x
returns-then-d-x c = simp (eq-eqb _ _ c.if-k-v.false) (omega arith)

pub returns-else-d-x : goal.returns-else-d-x
returns-else-d-x c = simp (eq-eqb _ _ c.if-k-v.false) (omega arith)
