use native.Mathlib.Omega.{arith}
use mathlib.Core.Path.{refl}
use Prim.Native.Nat.{◌+◌, ◌-◌}
use Rattle.lists.specs.Walk.{walked_none, walked_more, walked_end}
use Rattle.quotient_levels.proofs.through.Goals as goal

pub loop-j-init : goal.loop-j-init
loop-j-init c = walked_none _ _ _

pub loop-j-preserved : goal.loop-j-preserved
loop-j-preserved c = walked_more c.loop-j.invariant refl

pub returns : goal.returns
returns c = let f = c.loop-j.invariant.from in walked_end (4 - (c.args.v + 1)) c.loop-j.invariant (omega arith)
