use native.Mathlib.Omega.{arith}
use Rattle.npy_pieces.proofs.capped.Goals as goal

pub returns-then-n-lt65 : goal.returns-then-n-lt65
returns-then-n-lt65 c = omega (arith, c.if-n-lt65.true)

pub returns-else-n-lt65 : goal.returns-else-n-lt65
returns-else-n-lt65 c = omega (arith, c.if-n-lt65.false)
