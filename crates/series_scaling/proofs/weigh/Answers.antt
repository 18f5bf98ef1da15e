use native.Mathlib.Omega.{arith}
use mathlib.Core.Path.{refl}
use Rattle.lists.specs.Table.{filled_none, filled_more}
use Rattle.series_scaling.specs.Weighed.{small_float, small_row}
use Rattle.series_scaling.proofs.weigh.Goals as goal

pub loop-i-init : goal.loop-i-init
loop-i-init c = filled_none

pub int_to_float-place : goal.int_to_float-place
int_to_float-place c =
    small_float (small_row c.requires.fact_1.0 c.requires.fact_2 c.loop-i-test.true)

pub loop-i-preserved : goal.loop-i-preserved
loop-i-preserved c = filled_more c.loop-i.invariant refl (omega arith)
