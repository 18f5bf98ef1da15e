use native.Mathlib.Omega.{arith}
use mathlib.Core.Path.{◌≡◌}
use Prim.Native.Nat.{◌+◌, ◌-◌, ◌*◌, ◌≤◌}
use lib.ListN.{length}
use Rattle.product_general.specs.Pairs.{row-none}
use Rattle.product_general.specs.Plane.{lining-of, row-there, plane-next, plane_end}
use Rattle.product_general.proofs.plane.plane.Goals as goal

pub loop-k-init : goal.loop-k-init
loop-k-init c = row-none c.args.s

pub from-a-requires : goal.from-a-requires
from-a-requires c = omega (arith, c.requires.many, c.loop-k-test.true)

pub upto-b-requires : goal.upto-b-requires
upto-b-requires c = omega (arith, c.requires.many, c.loop-k-test.true)

pub each_line-requires : goal.each_line-requires
each_line-requires c =
    let e : c.loop-k.k * c.args.s + c.args.s - c.loop-k.k * c.args.s ≡ c.args.s = omega arith in
    lining-of c.requires c.loop-k-test.true c.from-a.ensures c.upto-b.ensures e c.loop-k.res

pub loop-k-preserved : goal.loop-k-preserved
loop-k-preserved c =
    let l = c.loop-k in
    let e : c.loop-k.k * c.args.s + c.args.s - c.loop-k.k * c.args.s ≡ c.args.s = omega arith in
    plane-next c.args.xs.now c.args.mx c.args.tx c.args.nx c.args.ys.now c.args.my c.args.ty c.args.ny c.args.s l.k l.invariant
    c.from-a.ensures
    c.upto-b.ensures e
    (row-there c.args.s c.loop-k-test.true c.requires.full) c.each_line.ensures

pub returns : goal.returns
returns c =
    let l = c.loop-k in
    let e : l.k ≡ c.args.n = omega arith in
    plane_end c.args.xs.now c.args.mx c.args.tx c.args.nx c.args.ys.now c.args.my c.args.ty c.args.ny c.args.s l.k l.invariant (rw e c.requires.full)
