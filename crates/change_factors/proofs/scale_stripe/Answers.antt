use Rattle.change_factors.specs.Scale.{loop-first, loop-next, stripe-is, stripe-fits}
use native.Mathlib.Omega.{arith}
use mathlib.Core.Path.{◌≡◌, refl}
use Prim.Native.Nat.{◌+◌, ◌-◌, ◌≤◌}
use lib.ListN.{length, take, drop, length-take, length-drop}
use Rattle.change_factors.proofs.scale_stripe.Goals as goal

pub loop-at-init : goal.loop-at-init
loop-at-init c = loop-first

pub slice_bounds-put_row-end : goal.slice_bounds-put_row-end
slice_bounds-put_row-end c =
    let fits : ((c.loop-at.from + c.args.s ≤ length c.args.a.now)
    × (c.loop-at.at + c.args.s ≤ length c.args.to.now))
    × ((c.loop-at.from + c.args.width ≤ length c.args.a.now + length c.args.a.now)
    × (c.loop-at.at + c.args.step ≤ length c.args.to.now + length c.args.to.now)) =
    stripe-fits c.requires c.loop-at.invariant.along
    (omega (arith, c.loop-at-test.true, c.loop-at.invariant.done.len)) in
    omega (arith, fits)

pub slice_bounds-put_row-end-in-loop-at : goal.slice_bounds-put_row-end-in-loop-at
slice_bounds-put_row-end-in-loop-at c =
    let fits : ((c.loop-at.from + c.args.s ≤ length c.args.a.now)
    × (c.loop-at.at + c.args.s ≤ length c.args.to.now))
    × ((c.loop-at.from + c.args.width ≤ length c.args.a.now + length c.args.a.now)
    × (c.loop-at.at + c.args.step ≤ length c.args.to.now + length c.args.to.now)) =
    stripe-fits c.requires c.loop-at.invariant.along
    (omega (arith, c.loop-at-test.true, c.loop-at.invariant.done.len)) in
    omega (arith, fits, c.loop-at.invariant.done.len)

pub loop-at-preserved : goal.loop-at-preserved
loop-at-preserved c =
    let fits : ((c.loop-at.from + c.args.s ≤ length c.args.a.now)
    × (c.loop-at.at + c.args.s ≤ length c.args.to.now))
    × ((c.loop-at.from + c.args.width ≤ length c.args.a.now + length c.args.a.now)
    × (c.loop-at.at + c.args.step ≤ length c.args.to.now + length c.args.to.now)) =
    stripe-fits c.requires c.loop-at.invariant.along
    (omega (arith, c.loop-at-test.true, c.loop-at.invariant.done.len)) in
    let tall : length (take (c.loop-at.at + c.args.s - c.loop-at.at) (drop c.loop-at.at c.loop-at.to)) ≡ c.args.s =
    let f = fits in let l = c.loop-at.invariant.done.len in simp (length-take, length-drop) (omega arith) in
    let l = c.loop-at.invariant.done.len in
    let f = fits in
    let ew : c.loop-at.from + c.args.s - c.loop-at.from ≡ c.args.s = omega arith in
    let es : c.loop-at.at + c.args.s - c.loop-at.at ≡ c.args.s = omega arith in
    loop-next (c.loop-at.at + c.args.s - c.loop-at.at) c.loop-at.invariant c.requires.row
    (stripe-is c.args.s c.loop-at.invariant.along c.requires.row c.args.plain c.args.factor
    c.args.a.now (c.loop-at.from + c.args.s - c.loop-at.from)
    (length (take (c.loop-at.at + c.args.s - c.loop-at.at) (drop c.loop-at.at c.loop-at.to))) refl ew
    c.put_row.ensures (tall)) f.0.1 es
