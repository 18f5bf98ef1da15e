use native.Mathlib.Omega.{arith}
use mathlib.Core.Path.{ap, ◌∙◌}
use lib.ListN.{length}
use Rattle.lists.specs.Table.{length-table}
use Rattle.shape_words.specs.Strides.{stride-at}
use Rattle.product_general.specs.Bounds.{in_array}
use Rattle.product_general.specs.Plane.{plane_of, planing-of, rows-plane}
use Rattle.product_general.proofs.plane.two_long.Goals as goal

pub plane-requires : goal.plane-requires
plane-requires c = planing-of c.requires.fact_1 c.requires.fact_2 c.requires.fact_3 c.requires.fact_4

pub returns : goal.returns
returns c =
    let h = c.requires.fact_3.some in
    rows-plane c.args.lx c.args.ly c.args.r c.requires.fact_1.result c.requires.fact_3 c.requires.fact_4 c.args.xs.now c.args.ys.now c.args.res.now
    (stride-at c.args.lx c.requires.fact_1.by_x h) (stride-at c.args.ly c.requires.fact_1.by_y h) (stride-at c.args.r c.requires.fact_1.by_r h)
    c.requires.fact_2.full c.plane.ensures
