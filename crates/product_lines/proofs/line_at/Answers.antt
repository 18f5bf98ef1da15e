use native.Mathlib.Omega.{arith}
use lib.Ieee.{of_bits}
use Rattle.product_lines.specs.Fours.{line-by}
use Rattle.product_lines.proofs.line_at.Goals as goal

pub from-lo-requires : goal.from-lo-requires
from-lo-requires c = c.requires.fact_2

pub upto-hi-requires : goal.upto-hi-requires
upto-hi-requires c = c.requires.fact_2

pub sum_on-requires : goal.sum_on-requires
sum_on-requires c = let p = c.requires.fact_1 in
    record { below = omega arith; left = omega arith; right = omega arith }

pub returns : goal.returns
unfolding of_bits
returns c = line-by c.args.xs.now c.args.ys.now c.args.nx c.args.ny c.args.k c.from-lo.ensures
    c.upto-hi.ensures c.sum_on.ensures
