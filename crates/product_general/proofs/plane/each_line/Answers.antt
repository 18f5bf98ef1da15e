use native.Mathlib.Omega.{arith}
use mathlib.Core.Path.{refl}
use Prim.Native.Nat.{◌+◌, ◌-◌, ◌*◌, ◌≤◌}
use lib.ListN.{length}
use Rattle.product_general.specs.Pairs.{paired_none, paired-more, paired_end}
use Rattle.product_general.specs.Bounds.{length_on}
use Rattle.product_general.specs.Plane.{lines_of, lines_step}
use Rattle.product_general.proofs.plane.each_line.Goals as goal

pub loop-j-init : goal.loop-j-init
loop-j-init c = (omega arith, paired_none refl)

pub lines-requires : goal.lines-requires
lines-requires c =
    let here-left : c.loop-j.j * c.args.tx + c.args.nx ≤ length c.args.xs.now =
    c.requires.left c.loop-j.j c.loop-j.invariant.1.from c.loop-j-test.true in
    let here-right : (c.args.k - c.loop-j.j) * c.args.ty + c.args.ny ≤ length c.args.ys.now =
    c.requires.right c.loop-j.j c.loop-j.invariant.1.from c.loop-j-test.true in
    let l = c.loop-j in record {
      fact_1 = (
        omega (arith, here-left, length_on (l.j * c.args.tx) c.args.xs.now),
        omega (arith, here-right, length_on ((c.args.k - l.j) * c.args.ty) c.args.ys.now),
      );
      fact_2 = omega (arith, c.requires.size, l.invariant.1.len);
    }

pub loop-j-preserved : goal.loop-j-preserved
loop-j-preserved c =
    let l = c.loop-j in
    let f = l.invariant.1.from in (
      omega (arith, c.loop-j-test.true),
      paired-more l.invariant.1 (lines_step c.args.xs.now c.args.ys.now l.row c.args.tx c.args.nx c.args.ty c.args.ny c.args.k
          l.j l.invariant.1.len c.lines.ensures),
    )

pub returns : goal.returns
unfolding lines_of
returns c =
    let f = c.loop-j.invariant.1.from in
    paired_end (c.args.b - c.args.a) c.loop-j.invariant.1
    (omega (arith, c.loop-j.invariant.0, c.loop-j-test.false))
