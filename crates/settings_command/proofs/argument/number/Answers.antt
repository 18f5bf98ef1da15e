use native.Mathlib.Omega.{arith}
use Rattle.lists.specs.Walk.{walked_none, walked_more, walked_end}
use Rattle.settings_command.specs.Argument.{number_of}
use Rattle.settings_command.proofs.argument.number.Goals as goal

pub loop-b-init : goal.loop-b-init
loop-b-init c = walked_none _ 0 0

pub loop-b-preserved : goal.loop-b-preserved
loop-b-preserved c = walked_more c.loop-b.invariant c.push-value.ensures

pub returns : goal.returns
unfolding number_of
returns c = walked_end _ c.loop-b.invariant (omega arith)
