use native.Mathlib.Omega.{arith}
use mathlib.Core.Path.{sym, ap, ◌∙◌}
use Prim.Native.Nat.{◌+◌, ◌-◌, ◌*◌, ◌≤◌}
use lib.ListN.{length}
use Rattle.lists.specs.Four.{at}
use Rattle.lists.specs.Table.{length-table}
use Rattle.model.specs.Places.{index}
use Rattle.model.specs.General.{lo}
use Rattle.shape_words.specs.Strides.{stride-at}
use Rattle.product_general.specs.Product.{step_at}
use Rattle.product_general.specs.Pairs.{paired_none, paired-more, rows_step}
use Rattle.shape_words.specs.Lengths.{row_small}
use Rattle.quotient_levels.specs.Taken.{done_in, divisor_in, taking-rows, taken_end}
use Rattle.quotient_levels.proofs.taken_by_rows.Goals as goal

pub from-lo-requires : goal.from-lo-requires
from-lo-requires c =
    let t = c.requires.fact_2 in row_small c.requires.fact_1.result t.some t.row

pub loop-j-init : goal.loop-j-init
loop-j-init c =
    (omega arith, paired_none (ap length c.clear.ensures ∙ (length-table _ _ ∙ c.requires.fact_2.full)))

pub overflow_mul-p : goal.overflow_mul-p
overflow_mul-p c =
    let begun : lo (at c.args.ly c.args.v) c.args.k ≤ c.loop-j.j =
    omega (arith, c.loop-j.invariant.1.from) in
    let left : c.loop-j.j * at c.args.sr c.args.v + at c.args.sr c.args.v ≤ length c.args.done.now =
    done_in c.requires.fact_1 c.args.done.now c.args.ys.now c.requires.fact_2 (begun) c.loop-j-test.true in
    omega (arith, left)

pub overflow_sub-q : goal.overflow_sub-q
overflow_sub-q c = omega (arith, c.loop-j-test.true)

pub overflow_mul-q : goal.overflow_mul-q
overflow_mul-q c =
    let begun : lo (at c.args.ly c.args.v) c.args.k ≤ c.loop-j.j =
    omega (arith, c.loop-j.invariant.1.from) in
    let right : (c.args.k - c.loop-j.j) * at c.args.sy c.args.v + at c.args.sy c.args.v ≤ length c.args.ys.now =
    divisor_in c.requires.fact_1 c.args.done.now c.args.ys.now c.requires.fact_2 (begun) c.loop-j-test.true in
    omega (arith, right)

pub offset_bounds-done-p : goal.offset_bounds-done-p
offset_bounds-done-p c =
    let begun : lo (at c.args.ly c.args.v) c.args.k ≤ c.loop-j.j =
    omega (arith, c.loop-j.invariant.1.from) in
    let left : c.loop-j.j * at c.args.sr c.args.v + at c.args.sr c.args.v ≤ length c.args.done.now =
    done_in c.requires.fact_1 c.args.done.now c.args.ys.now c.requires.fact_2 (begun) c.loop-j-test.true in
    omega (arith, left)

pub slice_bounds-rows-count : goal.slice_bounds-rows-count
slice_bounds-rows-count c =
    let begun : lo (at c.args.ly c.args.v) c.args.k ≤ c.loop-j.j =
    omega (arith, c.loop-j.invariant.1.from) in
    let left : c.loop-j.j * at c.args.sr c.args.v + at c.args.sr c.args.v ≤ length c.args.done.now =
    done_in c.requires.fact_1 c.args.done.now c.args.ys.now c.requires.fact_2 (begun) c.loop-j-test.true in
    omega (arith, left)

pub slice_bounds-rows-start : goal.slice_bounds-rows-start
slice_bounds-rows-start c =
    let begun : lo (at c.args.ly c.args.v) c.args.k ≤ c.loop-j.j =
    omega (arith, c.loop-j.invariant.1.from) in
    let left : c.loop-j.j * at c.args.sr c.args.v + at c.args.sr c.args.v ≤ length c.args.done.now =
    done_in c.requires.fact_1 c.args.done.now c.args.ys.now c.requires.fact_2 (begun) c.loop-j-test.true in
    omega (arith, left)

pub offset_bounds-ys-q : goal.offset_bounds-ys-q
offset_bounds-ys-q c =
    let begun : lo (at c.args.ly c.args.v) c.args.k ≤ c.loop-j.j =
    omega (arith, c.loop-j.invariant.1.from) in
    let right : (c.args.k - c.loop-j.j) * at c.args.sy c.args.v + at c.args.sy c.args.v ≤ length c.args.ys.now =
    divisor_in c.requires.fact_1 c.args.done.now c.args.ys.now c.requires.fact_2 (begun) c.loop-j-test.true in
    omega (arith, right)

pub slice_bounds-rows-count-in-loop-j : goal.slice_bounds-rows-count-in-loop-j
slice_bounds-rows-count-in-loop-j c =
    let begun : lo (at c.args.ly c.args.v) c.args.k ≤ c.loop-j.j =
    omega (arith, c.loop-j.invariant.1.from) in
    let right : (c.args.k - c.loop-j.j) * at c.args.sy c.args.v + at c.args.sy c.args.v ≤ length c.args.ys.now =
    divisor_in c.requires.fact_1 c.args.done.now c.args.ys.now c.requires.fact_2 (begun) c.loop-j-test.true in
    omega (arith, right)

pub slice_bounds-rows-start-in-loop-j : goal.slice_bounds-rows-start-in-loop-j
slice_bounds-rows-start-in-loop-j c =
    let begun : lo (at c.args.ly c.args.v) c.args.k ≤ c.loop-j.j =
    omega (arith, c.loop-j.invariant.1.from) in
    let right : (c.args.k - c.loop-j.j) * at c.args.sy c.args.v + at c.args.sy c.args.v ≤ length c.args.ys.now =
    divisor_in c.requires.fact_1 c.args.done.now c.args.ys.now c.requires.fact_2 (begun) c.loop-j-test.true in
    omega (arith, right)

pub rows-requires : goal.rows-requires
rows-requires c =
    let begun : lo (at c.args.ly c.args.v) c.args.k ≤ c.loop-j.j =
    omega (arith, c.loop-j.invariant.1.from) in (
      c.requires.fact_1,
      taking-rows c.requires.fact_1 c.args.done.now c.args.ys.now c.requires.fact_2 (begun)
          c.loop-j-test.true c.loop-j.invariant.1.len,
    )

pub loop-j-preserved : goal.loop-j-preserved
loop-j-preserved c =
    let l = c.loop-j in
    let f = l.invariant.1.from in (
      omega (arith, c.loop-j-test.true),
      paired-more {f =
          λ q. step_at c.args.r c.args.ly c.args.r (index c.args.r q) c.args.v c.args.k (at c.args.sr c.args.v) (at c.args.sy c.args.v)
          c.args.done.now c.args.ys.now} l.invariant.1
          (rows_step c.args.r c.args.ly c.args.r c.args.v c.args.k (at c.args.sr c.args.v) (at c.args.sy c.args.v) l.j c.args.done.now
          c.args.ys.now l.row c.rows.ensures),
    )

pub returns : goal.returns
returns c =
    let g = c.requires.fact_1 in let t = c.requires.fact_2 in let l = c.loop-j in
    let f = l.invariant.1.from in
    taken_end c.args.ly c.args.r c.args.v c.args.k c.args.done.now c.args.ys.now l.invariant.1
    c.clear.ensures t.full (stride-at c.args.r g.by_r t.some)
    (stride-at c.args.ly g.by_y t.some) c.from-lo.ensures
    (omega (arith, l.invariant.0, c.loop-j-test.false))
