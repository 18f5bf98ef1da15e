use Rattle.product_lines.specs.Fours.{ends}
use Rattle.product_lines.proofs.four_last.Goals as goal

pub returns : goal.returns
returns c =
    ends c.args.xs.now c.args.ys.now c.args.k c.args.s
