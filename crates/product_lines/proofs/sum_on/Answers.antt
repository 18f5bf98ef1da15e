use native.Mathlib.Omega.{arith}
use mathlib.Core.Path.{refl}
use Prim.Native.Nat.{◌-◌}
use Rattle.lists.specs.Walk.{walked_none, walked_more, walked_end}
use Rattle.product_lines.proofs.sum_on.Goals as goal

pub loop-j-init : goal.loop-j-init
loop-j-init c = (omega arith, walked_none _ _ _)

pub loop-j-preserved : goal.loop-j-preserved
loop-j-preserved c = (omega arith, walked_more c.loop-j.invariant.1 refl)

pub returns : goal.returns
returns c = let f = c.loop-j.invariant.1.from in walked_end (c.args.b - c.args.a) c.loop-j.invariant.1 (omega arith)
