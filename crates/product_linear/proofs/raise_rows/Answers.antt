use Rattle.product_linear.specs.Raised.{along-first, along-next, row_fits, row_is, rows_more}
use native.Mathlib.Omega.{arith}
use mathlib.Core.Path.{◌≡◌, refl}
use Prim.Native.Nat.{◌+◌, ◌-◌, ◌≤◌}
use lib.ListN.{length, length-take, length-drop}
use Rattle.lists.specs.Table.{filled_none}
use Rattle.lists.specs.Fill.{filled-all}
use Rattle.product_linear.proofs.raise_rows.Goals as goal

pub loop-at-init : goal.loop-at-init
loop-at-init c = (along-first, (omega arith, filled_none))

pub slice_bounds-raise_row-end : goal.slice_bounds-raise_row-end
slice_bounds-raise_row-end c =
    let fits : (c.loop-at.from + c.args.width ≤ length c.args.a.now) × (c.loop-at.at + c.args.step ≤ length c.args.to.now) =
    row_fits c.requires c.loop-at.invariant.0 (omega (arith, c.loop-at-test.true, c.loop-at.invariant.1.1.len)) in
    omega (arith, fits)

pub slice_bounds-raise_row-end-in-loop-at : goal.slice_bounds-raise_row-end-in-loop-at
slice_bounds-raise_row-end-in-loop-at c =
    let fits : (c.loop-at.from + c.args.width ≤ length c.args.a.now) × (c.loop-at.at + c.args.step ≤ length c.args.to.now) =
    row_fits c.requires c.loop-at.invariant.0 (omega (arith, c.loop-at-test.true, c.loop-at.invariant.1.1.len)) in
    omega (arith, fits, c.loop-at.invariant.1.1.len)

pub raise_row-requires : goal.raise_row-requires
raise_row-requires c =
    let fits : (c.loop-at.from + c.args.width ≤ length c.args.a.now) × (c.loop-at.at + c.args.step ≤ length c.args.to.now) =
    row_fits c.requires c.loop-at.invariant.0 (omega (arith, c.loop-at-test.true, c.loop-at.invariant.1.1.len)) in
    let l = c.loop-at.invariant.1.1.len in
    let f = fits in (
      simp (length-take, length-drop) (omega (arith, c.requires.small)),
      simp (length-take, length-drop) (omega (arith, c.requires.most)),
    )

pub loop-at-preserved : goal.loop-at-preserved
loop-at-preserved c =
    let fits : (c.loop-at.from + c.args.width ≤ length c.args.a.now) × (c.loop-at.at + c.args.step ≤ length c.args.to.now) =
    row_fits c.requires c.loop-at.invariant.0 (omega (arith, c.loop-at-test.true, c.loop-at.invariant.1.1.len)) in
    let l = c.loop-at.invariant.1.1.len in
    let f = fits in
    let ew : c.loop-at.from + c.args.width - c.loop-at.from ≡ c.args.width = omega arith in
    let es : c.loop-at.at + c.args.step - c.loop-at.at ≡ c.args.step = omega arith in (
      along-next c.loop-at.invariant.0,
      (
        f.1,
        rows_more c.args.step (c.loop-at.at + c.args.step - c.loop-at.at) c.loop-at.invariant.1.1
            (row_is c.requires c.loop-at.invariant.0 c.args.m c.args.a.now refl ew
            c.raise_row.ensures (simp (length-take, length-drop) (omega (arith, l, f)))) f.1 es,
      ),
    )

pub returns : goal.returns
returns c = filled-all c.loop-at.invariant.1.1 c.loop-at.invariant.1.0 (omega (arith, c.loop-at-test.false, c.loop-at.invariant.1.1.len))
