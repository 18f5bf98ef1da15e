use Rattle.std.proofs.Common.{arith}
use Prim.Native.Nat.{◌/◌, ◌%◌}
use lib.Ieee.{mul, binary64}
use Rattle.product_linear.specs.Raised.{turn-none, turn-all}
use Rattle.substitution_powers.specs.Powers.{power, part-fits, part-power, whole-parts, part-more}
use Rattle.substitution_powers.proofs.power_parts.Goals as goal

pub loop-r-init : goal.loop-r-init
loop-r-init c = turn-none c.args.width

pub loop-r-preserved : goal.loop-r-preserved
loop-r-preserved c =
    part-more (λ p x. mul binary64 x (power c.args.m (p % c.args.width / c.args.s))) (λ k x. mul binary64 x (power c.args.m (k / c.args.s)))
    c.args.width _ c.loop-r.r c.loop-r.invariant c.power_rows.ensures (part-fits c.args.width _ c.loop-r.r (omega arith)) (omega arith)
    (part-power c.args.m c.args.s c.args.width c.loop-r.r)

pub returns : goal.returns
returns c = turn-all c.args.width c.loop-r.r _ c.loop-r.invariant (omega arith) (whole-parts c.requires.fact_2)
