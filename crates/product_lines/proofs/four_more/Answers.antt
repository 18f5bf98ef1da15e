use native.Mathlib.Omega.{arith}
use Rattle.product_lines.specs.Fours.{walking-none, walking-more, walking_end}
use Rattle.product_lines.proofs.four_more.Goals as goal

pub returns : goal.returns
returns c =
    walking_end c.args.s (walking-more (walking-none c.args.xs.now c.args.ys.now c.args.k c.args.j _ _ _ _) c.requires.fact_1.0) (omega arith)
