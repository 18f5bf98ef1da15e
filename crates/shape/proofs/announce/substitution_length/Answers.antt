use borrow.Author.Tests.{eq-eqb, ne_eqb}
use native.Mathlib.Omega.{arith}
use native.Mathlib.Nat.{mul-le-mul}
use Prim.Native.Nat.{◌-◌, ◌≤◌}
use Rattle.shape.proofs.announce.substitution_length.Goals as goal

pub overflow_mul-more : goal.overflow_mul-more
overflow_mul-more c = let p : (c).args.p - 1 ≤ 63 = omega arith in let b : (c).args.b - 1 ≤ 63 = omega arith in omega (arith, mul-le-mul p b)

pub overflow_add-more : goal.overflow_add-more
overflow_add-more c = let p : c.args.p - 1 ≤ 63 = omega arith in let b : c.args.b - 1 ≤ 63 = omega arith in omega (arith, mul-le-mul p b)

pub overflow_add-a : goal.overflow_add-a
overflow_add-a c = let p : c.args.p - 1 ≤ 63 = omega arith in let b : c.args.b - 1 ≤ 63 = omega arith in omega (arith, mul-le-mul p b)

pub returns-then-k-v : goal.returns-then-k-v
returns-then-k-v c = simp (eq-eqb _ _ c.if-k-v.true) c.least.ensures

pub returns-else-k-v : goal.returns-else-k-v
returns-else-k-v c = simp (ne_eqb _ _ c.if-k-v.false) c.least-else-k-v.ensures
