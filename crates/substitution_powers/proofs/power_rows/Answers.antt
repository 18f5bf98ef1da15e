use Rattle.std.proofs.Common.{arith}
use Prim.Native.Nat.{◌/◌}
use lib.Ieee.{mul, binary64}
use Rattle.product_linear.specs.Raised.{turn-none, turn-below, turn-all}
use Rattle.substitution_powers.specs.Powers.{power, power-first, power-more, row-power, part-more}
use Rattle.substitution_powers.proofs.power_rows.Goals as goal

pub loop-r-init : goal.loop-r-init
loop-r-init c = (power-first c.args.m, turn-none c.args.s)

pub loop-r-preserved : goal.loop-r-preserved
loop-r-preserved c = (
  power-more c.args.m c.loop-r.r c.loop-r.invariant.0,
  part-more (λ p x. mul binary64 x (power c.args.m (p / c.args.s))) (λ k x. mul binary64 x c.loop-r.factor) c.args.s _ c.loop-r.r
      c.loop-r.invariant.1 c.times_each.ensures (omega (
        arith,
        turn-below c.args.s c.loop-r.r c.args.rows
            (omega arith),
      )) (omega arith) (row-power c.args.m c.args.s c.loop-r.r c.loop-r.invariant.0),
)

pub returns : goal.returns
returns c = turn-all c.args.s c.loop-r.r c.args.rows c.loop-r.invariant.1 (omega arith) (omega arith)
