use native.Mathlib.Omega.{arith}
use mathlib.Core.Path.{◌∙◌}
use Rattle.report_totals.specs.Powers.{raising-first, raising-next, raising-last, power-none, power-one, power-more}
use Rattle.report_totals.proofs.power.number_power.Goals as goal

pub returns-then-e-eq0 : goal.returns-then-e-eq0
returns-then-e-eq0 c = power-none _ _ c.if-e-eq0.true

pub returns-then-e-eq1 : goal.returns-then-e-eq1
returns-then-e-eq1 c = power-one _ _ c.if-e-eq1.true

pub loop-left-init : goal.loop-left-init
loop-left-init c = raising-first _ _ (omega (arith, c.if-e-eq0.false)) (omega arith)

pub loop-left-smaller : goal.loop-left-smaller
loop-left-smaller c = omega (arith, c.loop-left-test.true)

pub loop-left-preserved : goal.loop-left-preserved
loop-left-preserved c = raising-next c.loop-left.invariant c.take_bit-reached.ensures c.loop-left-test.true

pub returns : goal.returns
returns c =
    raising-last c.loop-left.invariant (omega (arith, c.loop-left-test.false)) ∙ power-more _ _ c.if-e-eq0.false c.if-e-eq1.false
