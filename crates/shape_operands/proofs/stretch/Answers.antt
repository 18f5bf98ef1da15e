use native.Mathlib.Omega.{arith}
use Prim.Native.Nat.{◌+◌, ◌-◌, ◌≤◌}
use lib.ListN.{length}
use Rattle.shape_operands.specs.Lent.{input-ends, input-part, pool-ends, pool-part}
use Rattle.shape_operands.proofs.stretch.Goals as goal

pub overflow_add-result : goal.overflow_add-result
overflow_add-result c =
    let ends1 : c.args.from + c.args.count ≤ length c.args.coefficients.now =
    input-ends c.args.coefficients.now c.args.pool.now c.if-input.true c.requires in
    omega (arith, ends1, c.well_formed)

pub offset_bounds-coefficients-from : goal.offset_bounds-coefficients-from
offset_bounds-coefficients-from c =
    let ends1 : c.args.from + c.args.count ≤ length c.args.coefficients.now =
    input-ends c.args.coefficients.now c.args.pool.now c.if-input.true c.requires in
    omega (arith, ends1, c.well_formed)

pub slice_bounds-result-end : goal.slice_bounds-result-end
slice_bounds-result-end c =
    let ends1 : c.args.from + c.args.count ≤ length c.args.coefficients.now =
    input-ends c.args.coefficients.now c.args.pool.now c.if-input.true c.requires in
    ends1

pub returns-then-input : goal.returns-then-input
returns-then-input c =
    input-part c.args.coefficients.now c.args.pool.now c.if-input.true
    c.args.from c.args.count

pub overflow_add-result-2 : goal.overflow_add-result-2
overflow_add-result-2 c =
    let ends2 : c.args.from + c.args.count ≤ length c.args.pool.now =
    pool-ends c.args.coefficients.now c.args.pool.now c.if-input.false c.requires in
    omega (arith, ends2, c.well_formed)

pub offset_bounds-pool-from : goal.offset_bounds-pool-from
offset_bounds-pool-from c =
    let ends2 : c.args.from + c.args.count ≤ length c.args.pool.now =
    pool-ends c.args.coefficients.now c.args.pool.now c.if-input.false c.requires in
    omega (arith, ends2, c.well_formed)

pub slice_bounds-result-end-2 : goal.slice_bounds-result-end-2
slice_bounds-result-end-2 c =
    let ends2 : c.args.from + c.args.count ≤ length c.args.pool.now =
    pool-ends c.args.coefficients.now c.args.pool.now c.if-input.false c.requires in
    ends2

pub returns : goal.returns
returns c =
    pool-part c.args.coefficients.now c.args.pool.now c.if-input.false
    c.args.from c.args.count
