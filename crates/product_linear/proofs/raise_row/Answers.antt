use Rattle.product_linear.specs.Raised.{row-start, row_more}
use native.Mathlib.Omega.{arith}
use lib.Seq.{length-take-le}
use Rattle.lists.specs.Table.{filled_more}
use Rattle.product_linear.proofs.raise_row.Goals as goal

pub loop-k-init : goal.loop-k-init
loop-k-init c =
    row-start c.args.m c.args.s c.args.a.now c.args.to.now
    c.clear.ensures (length-take-le _ c.args.to.now c.requires.0)
    c.requires.0

pub loop-k-preserved : goal.loop-k-preserved
loop-k-preserved c =
    filled_more c.loop-k.invariant (row_more c.args.m c.args.s c.args.a.now c.loop-k.k c.loop-k.auto.k) (omega arith)
