use native.Mathlib.Omega.{arith}
use mathlib.Core.Path.{ap}
use lib.Ieee.{Float, nan, mul, binary64}
use Rattle.lists.specs.Table.{filled_none, filled_more}
use Rattle.lists.specs.Fill.{filled-here}
use Rattle.substitution_powers.proofs.times_each.Goals as goal

pub loop-place-init : goal.loop-place-init
loop-place-init c = filled_none

pub loop-place-preserved : goal.loop-place-preserved
loop-place-preserved c =
    filled_more c.loop-place.invariant
    (ap (λ (x : Float). mul binary64 x c.args.factor)
    (filled-here nan c.loop-place.invariant (omega arith))) (omega arith)
