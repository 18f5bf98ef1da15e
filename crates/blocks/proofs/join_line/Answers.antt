use Rattle.std.proofs.Common.{arith, ◌∙◌}
use Rattle.lists.specs.Table.{filled_none, filled_more}
use Rattle.lists.specs.Fill.{filled-here, filled-front}
use lib.Ieee.{nan}
use Rattle.blocks.specs.Line.{line-more, line-rest}
use Rattle.blocks.proofs.join_line.Goals as goal

pub loop-k-init : goal.loop-k-init
loop-k-init c = filled_none

pub loop-k-preserved : goal.loop-k-preserved
loop-k-preserved c =
    filled_more c.loop-k.invariant (c.joined.ensures
    ∙ line-more c.args.minus c.args.with.now c.args.to.now c.loop-k.k
    (filled-here nan c.loop-k.invariant (omega arith)) (omega arith)) (omega arith)

pub returns : goal.returns
returns c =
    filled-front nan c.loop-k.invariant (omega arith) (λ k p q. line-rest c.args.minus c.args.with.now c.args.to.now k (omega arith))
