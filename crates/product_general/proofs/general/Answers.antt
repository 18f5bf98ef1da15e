use native.Mathlib.Omega.{arith}
use mathlib.Core.Path.{ap, ◌∙◌}
use lib.ListN.{length}
use Rattle.lists.specs.Table.{length-table}
use Rattle.product_general.specs.Pairs.{general-is}
use Rattle.product_general.proofs.general.Goals as goal

pub rows-requires : goal.rows-requires
rows-requires c = (
  record {
    left = c.requires.left;
    right = c.requires.right;
    result = c.requires.result;
    by_x = c.strides_of-sx.ensures;
    by_y = c.strides_of-sy.ensures;
    by_r = c.strides_of-sr.ensures;
  },
  record {
    within = omega arith;
    room_x = c.requires.room_x;
    room_y = c.requires.room_y;
    full = ap length c.clear.ensures ∙ (length-table _ _ ∙ c.requires.full);
  },
)

pub returns : goal.returns
returns c =
    general-is c.args.lx c.args.ly c.args.r c.args.xs.now c.args.ys.now (length c.args.out.now) c.clear.ensures
    c.requires.full c.rows.ensures
