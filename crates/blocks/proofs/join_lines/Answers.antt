use Rattle.std.proofs.Common.{ap, arith, ◌∙◌}
use lib.ListN.{get_or}
use lib.Ieee.{Float, nan}
use Rattle.lists.specs.Table.{filled_none, filled_more}
use Rattle.model.specs.Add.{join}
use Rattle.blocks.proofs.join_lines.Goals as goal

pub loop-k-init : goal.loop-k-init
loop-k-init c = filled_none

pub loop-k-preserved : goal.loop-k-preserved
loop-k-preserved c =
    filled_more c.loop-k.invariant (c.joined.ensures
    ∙ ap (λ (x : Float). join c.args.minus x (get_or c.args.b.now c.loop-k.k nan)) c.joined-x.ensures) (omega arith)
