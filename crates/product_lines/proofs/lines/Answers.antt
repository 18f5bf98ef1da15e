use native.Mathlib.Omega.{arith}
use Prim.Native.Nat.{◌-◌}
use Rattle.lists.specs.Table.{filled_none, filled_more}
use Rattle.lists.specs.Fill.{filled-all}
use Rattle.product_lines.specs.Added.{line-more}
use Rattle.product_lines.specs.Fours.{four_more_lem}
use Rattle.product_lines.proofs.lines.Goals as goal

pub loop-k-init : goal.loop-k-init
loop-k-init c = (omega arith, filled_none)

pub four_at-requires : goal.four_at-requires
four_at-requires c = record { fact_1 = c.requires.fact_1; fact_2 = omega arith }

pub add_four-requires : goal.add_four-requires
add_four-requires c = let l = c.loop-k.invariant.1.len in omega arith

pub loop-k-preserved-then-k-n : goal.loop-k-preserved-then-k-n
loop-k-preserved-then-k-n c = (
  omega arith,
  rw c.add_four.ensures
      (four_more_lem c.args.xs.now c.args.ys.now c.args.nx c.args.ny
      c.loop-k.invariant.1 (omega arith)
      c.four_at.ensures),
)

pub bounds-res-k : goal.bounds-res-k
bounds-res-k c = let l = c.loop-k.invariant.1.len in omega arith

pub line_at-requires : goal.line_at-requires
line_at-requires c = record { fact_1 = c.requires.fact_1; fact_2 = omega arith }

pub bounds-res-k-else-k-n : goal.bounds-res-k-else-k-n
bounds-res-k-else-k-n c = let l = c.loop-k.invariant.1.len in omega arith

pub loop-k-preserved : goal.loop-k-preserved
loop-k-preserved c = (
  omega arith,
  filled_more c.loop-k.invariant.1 (line-more c.args.xs.now c.args.ys.now c.args.nx c.args.ny c.loop-k.invariant.1 (omega arith)
      c.line_at.ensures) (omega arith),
)

pub shape_of-res : goal.shape_of-res
shape_of-res c = c.loop-k.invariant.1.len

pub returns : goal.returns
returns c = filled-all c.loop-k.invariant.1 (omega arith) (omega arith)
