use borrow.Author.Tests.{eq-eqb, ne_eqb}
use native.Mathlib.Omega.{arith}
use Rattle.decimals.proofs.value.binary_of.Goals as goal

pub returns-then-exponent-eq0 : goal.returns-then-exponent-eq0
returns-then-exponent-eq0 c = rw (eq-eqb _ _ c.if-exponent-eq0.true) (omega arith)

pub returns : goal.returns
returns c = rw (ne_eqb _ _ c.if-exponent-eq0.false)
