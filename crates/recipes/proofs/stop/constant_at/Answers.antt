use native.Mathlib.Omega.{arith}
use Prim.Native.Nat.{◌<◌}
use lib.ListN.{length}
use Rattle.recipes.proofs.stop.constant_at.Goals as goal

pub offset_bounds-coefficients-from : goal.offset_bounds-coefficients-from
offset_bounds-coefficients-from c =
    let h : c.args.from < length c.args.coefficients.now = rw c.if-input.true at c.requires in omega
    (arith, h, c.well_formed)

pub bounds-coefficients-from : goal.bounds-coefficients-from
bounds-coefficients-from c = rw c.if-input.true at c.requires

pub offset_bounds-pool-from : goal.offset_bounds-pool-from
offset_bounds-pool-from c =
    let h : c.args.from < length c.args.pool.now = rw c.if-input.false at c.requires in omega (arith, h, c.well_formed)

pub bounds-pool-from : goal.bounds-pool-from
bounds-pool-from c = rw c.if-input.false at c.requires

pub returns-then-input : goal.returns-then-input
returns-then-input c = rw c.if-input.true

pub returns-else-input : goal.returns-else-input
returns-else-input c = rw c.if-input.false
