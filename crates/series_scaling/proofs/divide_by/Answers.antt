use native.Mathlib.Omega.{arith}
use mathlib.Core.Path.{ap}
use lib.Ieee.{Float, nan, div, binary64}
use Rattle.lists.specs.Table.{filled_none, filled_more}
use Rattle.lists.specs.Fill.{filled-here}
use Rattle.model.specs.Constructed.{whole_f}
use Rattle.series_scaling.proofs.divide_by.Goals as goal

pub loop-place-init : goal.loop-place-init
loop-place-init c = filled_none

pub loop-place-preserved : goal.loop-place-preserved
loop-place-preserved c =
    filled_more c.loop-place.invariant
    (ap (λ (x : Float). div binary64 x (whole_f c.args.k))
    (filled-here nan c.loop-place.invariant (omega arith))) (omega arith)
