use native.Mathlib.Omega.{arith}
use mathlib.Core.Path.{◌≡◌, ap}
use Prim.Native.Nat.{◌+◌}
use lib.ListN.{length, get_or}
use lib.Ieee.{Float, nan, add, neg, binary64}
use Rattle.lists.specs.Table.{table}
use Rattle.quotient_lessening.specs.Laid.{laid_none, laid_more}
use Rattle.quotient_lessening.proofs.lessen.Goals as goal

pub loop-i-init : goal.loop-i-init
unfolding table
loop-i-init c = laid_none

pub loop-i-preserved : goal.loop-i-preserved
loop-i-preserved c =
    let l = c.loop-i in
    laid_more c.args.to l.i (λ j. add binary64 (neg (get_or c.args.row.now j nan)) (get_or c.args.work.now (c.args.from + j) nan))
    l.invariant
    (ap (λ (z : Float). add binary64 (neg (get_or c.args.row.now l.i nan)) z)
    (l.invariant.low (c.args.from + l.i) (omega (arith, c.requires)))) (omega (arith, c.requires))

pub returns : goal.returns
returns c = let l = c.loop-i in let e : l.i ≡ length c.args.row.now = omega arith in rw e at l.invariant
