use Rattle.product_linear.specs.Raised.{along-first, along-next, row_fits, rows_more}
use Rattle.change.specs.Drop.{part-is}
use native.Mathlib.Omega.{arith}
use mathlib.Core.Path.{◌≡◌, refl}
use Prim.Native.Nat.{◌+◌, ◌-◌, ◌≤◌}
use lib.ListN.{length, take, drop, length-take, length-drop}
use Rattle.lists.specs.Table.{filled_none}
use Rattle.change.proofs.kernel.drop_parts.Goals as goal

pub loop-at-init : goal.loop-at-init
loop-at-init c = (along-first, (omega arith, filled_none))

pub overflow_add-from : goal.overflow_add-from
overflow_add-from c =
    let fits : (c.loop-at.from + c.args.width ≤ length c.args.a.now) × (c.loop-at.at + c.args.step ≤ length c.args.to.now) =
    row_fits c.requires.fact_1 c.loop-at.invariant.0 (omega (arith, c.loop-at-test.true, c.loop-at.invariant.1.1.len)) in
    omega (arith, fits)

pub offset_bounds-a-from : goal.offset_bounds-a-from
offset_bounds-a-from c =
    let fits : (c.loop-at.from + c.args.width ≤ length c.args.a.now) × (c.loop-at.at + c.args.step ≤ length c.args.to.now) =
    row_fits c.requires.fact_1 c.loop-at.invariant.0 (omega (arith, c.loop-at-test.true, c.loop-at.invariant.1.1.len)) in
    omega (arith, fits)

pub slice_bounds-drop_part-end : goal.slice_bounds-drop_part-end
slice_bounds-drop_part-end c =
    let fits : (c.loop-at.from + c.args.width ≤ length c.args.a.now) × (c.loop-at.at + c.args.step ≤ length c.args.to.now) =
    row_fits c.requires.fact_1 c.loop-at.invariant.0 (omega (arith, c.loop-at-test.true, c.loop-at.invariant.1.1.len)) in
    omega (arith, fits)

pub slice_bounds-drop_part-end-in-loop-at : goal.slice_bounds-drop_part-end-in-loop-at
slice_bounds-drop_part-end-in-loop-at c =
    let fits : (c.loop-at.from + c.args.width ≤ length c.args.a.now) × (c.loop-at.at + c.args.step ≤ length c.args.to.now) =
    row_fits c.requires.fact_1 c.loop-at.invariant.0 (omega (arith, c.loop-at-test.true, c.loop-at.invariant.1.1.len)) in
    omega (arith, fits, c.loop-at.invariant.1.1.len)

pub loop-at-preserved : goal.loop-at-preserved
loop-at-preserved c =
    let fits : (c.loop-at.from + c.args.width ≤ length c.args.a.now) × (c.loop-at.at + c.args.step ≤ length c.args.to.now) =
    row_fits c.requires.fact_1 c.loop-at.invariant.0 (omega (arith, c.loop-at-test.true, c.loop-at.invariant.1.1.len)) in
    let tall : length (take (c.loop-at.at + c.args.step - c.loop-at.at) (drop c.loop-at.at c.loop-at.to)) ≡ c.args.step =
    let f = fits in let l = c.loop-at.invariant.1.1.len in simp (length-take, length-drop) (omega arith) in
    let l = c.loop-at.invariant.1.1.len in
    let f = fits in
    let ew : c.loop-at.from + c.args.width - c.loop-at.from ≡ c.args.width = omega arith in
    let es : c.loop-at.at + c.args.step - c.loop-at.at ≡ c.args.step = omega arith in (
      along-next c.loop-at.invariant.0,
      (
        f.1,
        rows_more c.args.step (c.loop-at.at + c.args.step - c.loop-at.at) c.loop-at.invariant.1.1
            (part-is c.requires.fact_2 c.loop-at.invariant.0 c.args.a.now refl ew
            c.drop_part.ensures (tall)) f.1 es,
      ),
    )
