use Rattle.decimals.specs.Digits.{trim-none, trim-pos, trim-more, trim_end}
use native.Mathlib.Omega.{arith}
use Rattle.decimals.proofs.print.trimmed.Goals as goal

pub loop-m-init : goal.loop-m-init
loop-m-init c = trim-none _ (omega arith) (omega arith)

pub loop-m-smaller : goal.loop-m-smaller
loop-m-smaller c = omega (arith, trim-pos c.loop-m.invariant)

pub loop-m-preserved : goal.loop-m-preserved
loop-m-preserved c = trim-more _ _ c.loop-m.invariant c.loop-m-test.true

pub returns : goal.returns
returns c = trim_end _ _ c.loop-m.invariant c.loop-m-test.false
