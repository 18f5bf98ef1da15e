use native.Mathlib.Omega.{arith}
use lib.Ieee.{of_bits}
use Rattle.product_lines.specs.Fours.{whole-lines}
use Rattle.product_lines.proofs.four_full.Goals as goal

pub four_on-s-requires : goal.four_on-s-requires
four_on-s-requires c = record { ordered = omega arith; below = omega arith; left = omega arith; right = omega arith; small = omega arith }

pub returns : goal.returns
unfolding of_bits
returns c = whole-lines c.args.xs.now c.args.ys.now c.args.k c.four_on-s.ensures c.four_last.ensures
