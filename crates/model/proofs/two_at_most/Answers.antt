use borrow.Author.Tests.{eq-eqb, ne_eqb}
use native.Mathlib.Omega.{arith}
use Rattle.model.proofs.two_at_most.Goals as goal

pub returns-then-k-v : goal.returns-then-k-v
returns-then-k-v c = simp (ne_eqb _ _ c.if-k-v.true)

pub returns-then-limit-lt2 : goal.returns-then-limit-lt2
returns-then-limit-lt2 c = simp (eq-eqb _ _ c.if-k-v.false) (omega arith)

pub returns-else-limit-lt2 : goal.returns-else-limit-lt2
returns-else-limit-lt2 c = simp (eq-eqb _ _ c.if-k-v.false) (omega arith)
