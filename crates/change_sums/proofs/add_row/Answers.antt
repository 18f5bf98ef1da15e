use Rattle.std.proofs.Common.{ap, arith, get_or}
use lib.Ieee.{Float, nan, add, binary64}
use Rattle.lists.specs.Table.{filled_none, filled_more}
use Rattle.lists.specs.Fill.{filled-here}
use Rattle.change_sums.proofs.add_row.Goals as goal

pub loop-k-init : goal.loop-k-init
loop-k-init c = filled_none

pub loop-k-preserved : goal.loop-k-preserved
loop-k-preserved c =
    filled_more c.loop-k.invariant
    (ap (λ (x : Float). add binary64 x (get_or c.args.row.now c.loop-k.k nan)) (filled-here nan c.loop-k.invariant (omega arith))) (omega arith)
