use native.Mathlib.Omega.{arith}
use Rattle.settings_command.specs.Tests.{pushed-small, pushed_large}
use Rattle.settings_command.proofs.argument.push.Goals as goal

pub overflow_add-result : goal.overflow_add-result
overflow_add-result c = omega (arith, c.low.ensures)

pub returns-then-value-lt100000000000000000 : goal.returns-then-value-lt100000000000000000
returns-then-value-lt100000000000000000 c = pushed-small _ _ c.low.ensures c.if-value-lt100000000000000000.true

pub returns : goal.returns
returns c = pushed_large _ _ c.if-value-lt100000000000000000.false
