use borrow.Author.Tests.{eq-eqb, ne_eqb}
use native.Mathlib.Omega.{arith}
use Rattle.shape.proofs.announce.order_length.Goals as goal

pub returns-then-k-v : goal.returns-then-k-v
returns-then-k-v c = simp (ne_eqb _ _ c.if-k-v.true)

pub returns-then-n-a : goal.returns-then-n-a
returns-then-n-a c = simp (eq-eqb _ _ c.if-k-v.false) (omega arith)

pub returns-else-n-a : goal.returns-else-n-a
returns-else-n-a c = simp (eq-eqb _ _ c.if-k-v.false) (omega arith)
