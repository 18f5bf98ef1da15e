use native.Mathlib.Omega.{arith}
use mathlib.Core.Path.{refl}
use Prim.Native.Nat.{◌-◌}
use Rattle.lists.specs.Walk.{walked_none, walked_more}
use Rattle.series_scaling.specs.Weighed.{small_float}
use Rattle.series_log_line.specs.Line.{line_end_lem}
use Rattle.series_log_line.proofs.log_sum.Goals as goal

pub loop-j-init : goal.loop-j-init
loop-j-init c = (omega arith, walked_none _ _ _)

pub int_to_float-sum : goal.int_to_float-sum
int_to_float-sum c =
    small_float (let f = c.requires.few in omega (arith, c.loop-j-test.true))

pub loop-j-preserved : goal.loop-j-preserved
loop-j-preserved c = (omega arith, walked_more c.loop-j.invariant.1 refl)

pub returns : goal.returns
returns c =
    let f = c.loop-j.invariant.1.from in
    line_end_lem c.args.m c.args.xs.now c.args.done.now
    c.first_turn-lo.ensures c.loop-j.invariant.1
    (omega arith)
