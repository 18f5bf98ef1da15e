use Prim.Native.Nat.{◌+◌, ◌≤◌}
use native.Mathlib.Omega.{arith}
use lib.ListN.{get_or}
use Rattle.model_placing.specs.Placing.{highest}
use Rattle.recipes_placing.specs.Placed.{highest-above}
use Rattle.recipes_placing.specs.Climb.{climb-free, climb-before, climb-after, climb-over, climb_end}
use Rattle.recipes_placing.proofs.lowest.Goals as goal

pub overflow_add-end : goal.overflow_add-end
overflow_add-end c =
    let above : (get_or c.args.offsets.now c.loop-j.j 0 + get_or c.args.counts.now c.loop-j.j 0 ≤ highest
    c.args.offsets.now c.args.counts.now) =
    highest-above c.args.offsets.now c.args.counts.now c.loop-j.j c.loop-j-test.true
    c.requires.fact_1.1 in
    omega (arith, above, c.requires.fact_2)

pub loop-j-preserved-then-last-offsets : goal.loop-j-preserved-then-last-offsets
loop-j-preserved-then-last-offsets c = climb-free c.loop-j.invariant c.loop-j-test.true c.if-last-offsets.true

pub loop-j-preserved-then-end-at : goal.loop-j-preserved-then-end-at
loop-j-preserved-then-end-at c =
    climb-before c.loop-j.invariant c.loop-j-test.true c.if-end-at.true

pub loop-j-preserved-then-at-count : goal.loop-j-preserved-then-at-count
loop-j-preserved-then-at-count c =
    climb-after c.loop-j.invariant c.loop-j-test.true c.if-at-count.true

pub loop-j-smaller : goal.loop-j-smaller
loop-j-smaller c =
    let above : (get_or c.args.offsets.now c.loop-j.j 0 + get_or c.args.counts.now c.loop-j.j 0 ≤ highest
    c.args.offsets.now c.args.counts.now) =
    highest-above c.args.offsets.now c.args.counts.now c.loop-j.j c.loop-j-test.true
    c.requires.fact_1.1 in
    omega (
      arith,
      above,
      c.if-end-at.false,
      c.requires.fact_1.2,
      c.loop-j-test.true,
    )

pub loop-j-preserved : goal.loop-j-preserved
loop-j-preserved c =
    climb-over c.loop-j.invariant
    c.loop-j-test.true c.requires.fact_1.1 c.if-last-offsets.false c.if-end-at.false
    c.if-at-count.false

pub returns : goal.returns
returns c = climb_end c.loop-j.invariant c.loop-j-test.false c.requires.fact_1.1
