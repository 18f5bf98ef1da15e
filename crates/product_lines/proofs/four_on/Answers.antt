use lib.ListN.{length}
use native.Mathlib.Omega.{arith}
use Prim.Native.Nat.{◌-◌}
use Rattle.product_lines.specs.Fours.{Near, near, fits, fits_8, walking-none, walking-two, walking-last, walking_end}
use Rattle.product_lines.proofs.four_on.Goals as goal

pub loop-j-init : goal.loop-j-init
loop-j-init c = (c.requires.ordered, walking-none c.args.xs.now c.args.ys.now c.args.k c.args.a _ _ _ _)

pub overflow_add-j : goal.overflow_add-j
overflow_add-j c = let f = c.loop-j.invariant.1.w0.from in omega arith

pub offset_bounds-xs-j : goal.offset_bounds-xs-j
offset_bounds-xs-j c =
    let turn : Near c.args.k c.loop-j.j (length c.args.xs.now) (length c.args.ys.now) =
    let f = c.loop-j.invariant.1.w0.from in
    let t = c.loop-j-test.true in
    near (omega arith) (omega arith) (omega arith) c.requires.small in
    fits_8 (turn).j0

pub bounds-xs-j : goal.bounds-xs-j
bounds-xs-j c =
    let turn : Near c.args.k c.loop-j.j (length c.args.xs.now) (length c.args.ys.now) =
    let f = c.loop-j.invariant.1.w0.from in
    let t = c.loop-j-test.true in
    near (omega arith) (omega arith) (omega arith) c.requires.small in
    (turn).x0

pub overflow_add-u : goal.overflow_add-u
overflow_add-u c =
    let turn : Near c.args.k c.loop-j.j (length c.args.xs.now) (length c.args.ys.now) =
    let f = c.loop-j.invariant.1.w0.from in
    let t = c.loop-j-test.true in
    near (omega arith) (omega arith) (omega arith) c.requires.small in
    fits (turn).j1

pub offset_bounds-xs-j-in-loop-j : goal.offset_bounds-xs-j-in-loop-j
offset_bounds-xs-j-in-loop-j c =
    let turn : Near c.args.k c.loop-j.j (length c.args.xs.now) (length c.args.ys.now) =
    let f = c.loop-j.invariant.1.w0.from in
    let t = c.loop-j-test.true in
    near (omega arith) (omega arith) (omega arith) c.requires.small in
    fits_8 (turn).j1

pub bounds-xs-j-in-loop-j : goal.bounds-xs-j-in-loop-j
bounds-xs-j-in-loop-j c =
    let turn : Near c.args.k c.loop-j.j (length c.args.xs.now) (length c.args.ys.now) =
    let f = c.loop-j.invariant.1.w0.from in
    let t = c.loop-j-test.true in
    near (omega arith) (omega arith) (omega arith) c.requires.small in
    (turn).x1

pub overflow_sub-i : goal.overflow_sub-i
overflow_sub-i c =
    let turn : Near c.args.k c.loop-j.j (length c.args.xs.now) (length c.args.ys.now) =
    let f = c.loop-j.invariant.1.w0.from in
    let t = c.loop-j-test.true in
    near (omega arith) (omega arith) (omega arith) c.requires.small in
    (turn).below

pub offset_bounds-ys-i : goal.offset_bounds-ys-i
offset_bounds-ys-i c =
    let turn : Near c.args.k c.loop-j.j (length c.args.xs.now) (length c.args.ys.now) =
    let f = c.loop-j.invariant.1.w0.from in
    let t = c.loop-j-test.true in
    near (omega arith) (omega arith) (omega arith) c.requires.small in
    fits_8 (turn).i0

pub bounds-ys-i : goal.bounds-ys-i
bounds-ys-i c =
    let turn : Near c.args.k c.loop-j.j (length c.args.xs.now) (length c.args.ys.now) =
    let f = c.loop-j.invariant.1.w0.from in
    let t = c.loop-j-test.true in
    near (omega arith) (omega arith) (omega arith) c.requires.small in
    (turn).y0

pub overflow_add-y1 : goal.overflow_add-y1
overflow_add-y1 c =
    let turn : Near c.args.k c.loop-j.j (length c.args.xs.now) (length c.args.ys.now) =
    let f = c.loop-j.invariant.1.w0.from in
    let t = c.loop-j-test.true in
    near (omega arith) (omega arith) (omega arith) c.requires.small in
    fits (turn).i1

pub offset_bounds-ys-i-in-loop-j : goal.offset_bounds-ys-i-in-loop-j
offset_bounds-ys-i-in-loop-j c =
    let turn : Near c.args.k c.loop-j.j (length c.args.xs.now) (length c.args.ys.now) =
    let f = c.loop-j.invariant.1.w0.from in
    let t = c.loop-j-test.true in
    near (omega arith) (omega arith) (omega arith) c.requires.small in
    fits_8 (turn).i1

pub bounds-ys-i-in-loop-j : goal.bounds-ys-i-in-loop-j
bounds-ys-i-in-loop-j c =
    let turn : Near c.args.k c.loop-j.j (length c.args.xs.now) (length c.args.ys.now) =
    let f = c.loop-j.invariant.1.w0.from in
    let t = c.loop-j-test.true in
    near (omega arith) (omega arith) (omega arith) c.requires.small in
    (turn).y1

pub overflow_add-y2 : goal.overflow_add-y2
overflow_add-y2 c =
    let turn : Near c.args.k c.loop-j.j (length c.args.xs.now) (length c.args.ys.now) =
    let f = c.loop-j.invariant.1.w0.from in
    let t = c.loop-j-test.true in
    near (omega arith) (omega arith) (omega arith) c.requires.small in
    fits (turn).i2

pub offset_bounds-ys-i-in-loop-j-2 : goal.offset_bounds-ys-i-in-loop-j-2
offset_bounds-ys-i-in-loop-j-2 c =
    let turn : Near c.args.k c.loop-j.j (length c.args.xs.now) (length c.args.ys.now) =
    let f = c.loop-j.invariant.1.w0.from in
    let t = c.loop-j-test.true in
    near (omega arith) (omega arith) (omega arith) c.requires.small in
    fits_8 (turn).i2

pub bounds-ys-i-in-loop-j-2 : goal.bounds-ys-i-in-loop-j-2
bounds-ys-i-in-loop-j-2 c =
    let turn : Near c.args.k c.loop-j.j (length c.args.xs.now) (length c.args.ys.now) =
    let f = c.loop-j.invariant.1.w0.from in
    let t = c.loop-j-test.true in
    near (omega arith) (omega arith) (omega arith) c.requires.small in
    (turn).y2

pub overflow_sub-s0 : goal.overflow_sub-s0
overflow_sub-s0 c =
    let turn : Near c.args.k c.loop-j.j (length c.args.xs.now) (length c.args.ys.now) =
    let f = c.loop-j.invariant.1.w0.from in
    let t = c.loop-j-test.true in
    near (omega arith) (omega arith) (omega arith) c.requires.small in
    (turn).above

pub offset_bounds-ys-i-in-loop-j-3 : goal.offset_bounds-ys-i-in-loop-j-3
offset_bounds-ys-i-in-loop-j-3 c =
    let turn : Near c.args.k c.loop-j.j (length c.args.xs.now) (length c.args.ys.now) =
    let f = c.loop-j.invariant.1.w0.from in
    let t = c.loop-j-test.true in
    near (omega arith) (omega arith) (omega arith) c.requires.small in
    fits_8 (turn).i_1

pub bounds-ys-i-in-loop-j-3 : goal.bounds-ys-i-in-loop-j-3
bounds-ys-i-in-loop-j-3 c =
    let turn : Near c.args.k c.loop-j.j (length c.args.xs.now) (length c.args.ys.now) =
    let f = c.loop-j.invariant.1.w0.from in
    let t = c.loop-j-test.true in
    near (omega arith) (omega arith) (omega arith) c.requires.small in
    (turn).y_1

pub overflow_add-s3 : goal.overflow_add-s3
overflow_add-s3 c =
    let turn : Near c.args.k c.loop-j.j (length c.args.xs.now) (length c.args.ys.now) =
    let f = c.loop-j.invariant.1.w0.from in
    let t = c.loop-j-test.true in
    near (omega arith) (omega arith) (omega arith) c.requires.small in
    fits (turn).i3

pub offset_bounds-ys-i-in-loop-j-4 : goal.offset_bounds-ys-i-in-loop-j-4
offset_bounds-ys-i-in-loop-j-4 c =
    let turn : Near c.args.k c.loop-j.j (length c.args.xs.now) (length c.args.ys.now) =
    let f = c.loop-j.invariant.1.w0.from in
    let t = c.loop-j-test.true in
    near (omega arith) (omega arith) (omega arith) c.requires.small in
    fits_8 (turn).i3

pub bounds-ys-i-in-loop-j-4 : goal.bounds-ys-i-in-loop-j-4
bounds-ys-i-in-loop-j-4 c =
    let turn : Near c.args.k c.loop-j.j (length c.args.xs.now) (length c.args.ys.now) =
    let f = c.loop-j.invariant.1.w0.from in
    let t = c.loop-j-test.true in
    near (omega arith) (omega arith) (omega arith) c.requires.small in
    (turn).y3

pub overflow_add-j-in-loop-j : goal.overflow_add-j-in-loop-j
overflow_add-j-in-loop-j c =
    let turn : Near c.args.k c.loop-j.j (length c.args.xs.now) (length c.args.ys.now) =
    let f = c.loop-j.invariant.1.w0.from in
    let t = c.loop-j-test.true in
    near (omega arith) (omega arith) (omega arith) c.requires.small in
    fits (turn).j2

pub loop-j-smaller : goal.loop-j-smaller
loop-j-smaller c =
    let f = c.loop-j.invariant.1.w0.from in omega arith

pub loop-j-preserved : goal.loop-j-preserved
loop-j-preserved c =
    let f = c.loop-j.invariant.1.w0.from in (omega arith, walking-two c.loop-j.invariant.1 (omega arith))

pub four_more-requires : goal.four_more-requires
four_more-requires c = let f = c.loop-j.invariant.1.w0.from in omega arith

pub returns-then-j-b : goal.returns-then-j-b
returns-then-j-b c =
    let f = c.loop-j.invariant.1.w0.from in
    walking-last c.args.s c.loop-j.invariant.1
    c.four_more.ensures (omega arith)

pub returns : goal.returns
returns c = let f = c.loop-j.invariant.1.w0.from in
    walking_end c.args.s c.loop-j.invariant.1 (omega arith)
