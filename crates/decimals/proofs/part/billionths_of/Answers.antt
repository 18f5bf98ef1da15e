use Rattle.decimals.specs.Rounded.{one_shl, one_shl-pos}
use Rattle.decimals.specs.Billionths.{billionths-none, all_most, all-billionths, part-fits, whole-fits}
use Rattle.decimals.specs.Billionths.{some-most, some-billionths, long-part, moved-fits, moved-part}
use Prim.Native.Nat.{◌*◌, ◌%◌, ◌^◌}
use native.Mathlib.Omega.{arith}
use Rattle.decimals.proofs.part.billionths_of.Goals as goal

pub returns-then-behind-gt95 : goal.returns-then-behind-gt95
returns-then-behind-gt95 c = billionths-none c.args.b c.args.behind (omega arith) (omega arith)

pub carried-requires : goal.carried-requires
carried-requires c =
    (omega arith, all_most c.args.b c.args.behind (omega arith) (omega arith) c.part_of.ensures)

pub returns-then-behind-gt52 : goal.returns-then-behind-gt52
returns-then-behind-gt52 c =
    all-billionths c.args.b c.args.behind (omega arith) (omega arith) c.part_of.ensures c.carried.ensures

pub nonzero_div-b : goal.nonzero_div-b
nonzero_div-b c = one_shl-pos c.args.behind (omega arith)

pub nonzero_rem-b : goal.nonzero_rem-b
nonzero_rem-b c = one_shl-pos c.args.behind (omega arith)

pub part_of-requires-then-behind-gt31 : goal.part_of-requires-then-behind-gt31
part_of-requires-then-behind-gt31 c = (
  part-fits c.args.b c.args.behind (omega arith) (1 * 2 ^ c.args.behind % 2 ^ 64) (one_shl c.args.behind
      (omega arith)),
  omega arith,
)

pub carried-requires-then-behind-gt31 : goal.carried-requires-then-behind-gt31
carried-requires-then-behind-gt31 c = (
  whole-fits c.args.b c.args.behind (omega arith) (1 * 2 ^ c.args.behind % 2 ^ 64) (one_shl c.args.behind
      (omega arith)),
  some-most c.args.b c.args.behind (omega arith) (1 * 2 ^ c.args.behind % 2 ^ 64) (one_shl c.args.behind
      (omega arith)) (long-part c.args.b c.args.behind (omega arith) (1 * 2 ^ c.args.behind % 2 ^ 64) (one_shl c.args.behind
      (omega arith)) (omega arith) c.part_of-then-behind-gt31.ensures),
)

pub returns-then-behind-gt31 : goal.returns-then-behind-gt31
returns-then-behind-gt31 c =
    some-billionths c.args.b c.args.behind (omega arith) (1 * 2 ^ c.args.behind % 2 ^ 64) (one_shl c.args.behind (omega arith))
    (long-part c.args.b c.args.behind (omega arith) (1 * 2 ^ c.args.behind % 2 ^ 64) (one_shl c.args.behind (omega arith))
    (omega arith) c.part_of-then-behind-gt31.ensures) c.carried-then-behind-gt31.ensures

pub nonzero_div-b-2 : goal.nonzero_div-b-2
nonzero_div-b-2 c = one_shl-pos c.args.behind (omega arith)

pub nonzero_rem-b-2 : goal.nonzero_rem-b-2
nonzero_rem-b-2 c = one_shl-pos c.args.behind (omega arith)

pub part_of-requires-2 : goal.part_of-requires-2
part_of-requires-2 c = (
  moved-fits c.args.b c.args.behind (omega arith) (1 * 2 ^ c.args.behind % 2 ^ 64) (one_shl c.args.behind (omega arith))
      (omega arith),
  omega arith,
)

pub carried-requires-2 : goal.carried-requires-2
carried-requires-2 c = (
  whole-fits c.args.b c.args.behind (omega arith) (1 * 2 ^ c.args.behind % 2 ^ 64) (one_shl c.args.behind
      (omega arith)),
  some-most c.args.b c.args.behind (omega arith) (1 * 2 ^ c.args.behind % 2 ^ 64) (one_shl c.args.behind
      (omega arith)) (moved-part c.args.b c.args.behind (omega arith) (1 * 2 ^ c.args.behind % 2 ^ 64) (one_shl c.args.behind
      (omega arith)) (omega arith) c.part_of-2.ensures),
)

pub returns : goal.returns
returns c =
    some-billionths c.args.b c.args.behind (omega arith) (1 * 2 ^ c.args.behind % 2 ^ 64) (one_shl c.args.behind (omega arith))
    (moved-part c.args.b c.args.behind (omega arith) (1 * 2 ^ c.args.behind % 2 ^ 64) (one_shl c.args.behind (omega arith))
    (omega arith) c.part_of-2.ensures) c.carried-2.ensures
