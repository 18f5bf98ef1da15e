use native.Mathlib.Omega.{arith}
use mathlib.Core.Path.{sym, ap, ◌∙◌}
use Prim.Native.Nat.{◌+◌, ◌-◌, ◌*◌, ◌≤◌}
use lib.ListN.{length}
use Rattle.lists.specs.Four.{at}
use Rattle.lists.specs.Table.{length-table}
use Rattle.product_general.specs.Pairs.{paired_none, paired-more}
use Rattle.shape_words.specs.Lengths.{row_small}
use Rattle.series_gathering.specs.Gather.{left_in_lem, right_in_lem, below, gathers, gather-step, gather_end}
use Rattle.series_gathering.proofs.gather_rows.Goals as goal

pub loop-j-init : goal.loop-j-init
loop-j-init c = (
  omega arith,
  paired_none (ap length c.clear.ensures
      ∙ (length-table _ _ ∙ c.requires.fact_2.full)),
)

pub left_row-i-requires : goal.left_row-i-requires
left_row-i-requires c =
    omega (arith, c.requires.fact_3.turns, c.loop-j-test.true)

pub overflow_mul-p : goal.overflow_mul-p
overflow_mul-p c =
    let left : c.left_row-i.result * at c.args.sx c.args.v + at c.args.sx c.args.v ≤ length c.args.xs.now =
    left_in_lem c.requires.fact_1 c.args.xs.now c.args.ys.now c.requires.fact_2 c.requires.fact_3
    c.loop-j.invariant.1.from c.loop-j-test.true c.left_row-i.ensures in
    omega (arith, left)

pub overflow_sub-q : goal.overflow_sub-q
overflow_sub-q c =
    let under : c.left_row-i.result ≤ c.args.k =
    below c.requires.fact_1 c.args.xs.now c.args.ys.now c.requires.fact_2 c.requires.fact_3
    c.loop-j.invariant.1.from c.loop-j-test.true c.left_row-i.ensures in
    under

pub overflow_mul-q : goal.overflow_mul-q
overflow_mul-q c =
    let right : (c.args.k - c.left_row-i.result) * at c.args.sr c.args.v + at c.args.sr c.args.v ≤ length c.args.ys.now =
    right_in_lem c.requires.fact_1 c.args.xs.now c.args.ys.now c.requires.fact_2 c.requires.fact_3
    c.loop-j.invariant.1.from c.loop-j-test.true c.left_row-i.ensures in
    omega (arith, right)

pub overflow_add-p : goal.overflow_add-p
overflow_add-p c =
    let left : c.left_row-i.result * at c.args.sx c.args.v + at c.args.sx c.args.v ≤ length c.args.xs.now =
    left_in_lem c.requires.fact_1 c.args.xs.now c.args.ys.now c.requires.fact_2 c.requires.fact_3
    c.loop-j.invariant.1.from c.loop-j-test.true c.left_row-i.ensures in
    omega (arith, left)

pub offset_bounds-xs-p : goal.offset_bounds-xs-p
offset_bounds-xs-p c =
    let left : c.left_row-i.result * at c.args.sx c.args.v + at c.args.sx c.args.v ≤ length c.args.xs.now =
    left_in_lem c.requires.fact_1 c.args.xs.now c.args.ys.now c.requires.fact_2 c.requires.fact_3
    c.loop-j.invariant.1.from c.loop-j-test.true c.left_row-i.ensures in
    omega (arith, left)

pub slice_bounds-rows-count : goal.slice_bounds-rows-count
slice_bounds-rows-count c =
    let left : c.left_row-i.result * at c.args.sx c.args.v + at c.args.sx c.args.v ≤ length c.args.xs.now =
    left_in_lem c.requires.fact_1 c.args.xs.now c.args.ys.now c.requires.fact_2 c.requires.fact_3
    c.loop-j.invariant.1.from c.loop-j-test.true c.left_row-i.ensures in
    omega (arith, left)

pub slice_bounds-rows-start : goal.slice_bounds-rows-start
slice_bounds-rows-start c =
    let left : c.left_row-i.result * at c.args.sx c.args.v + at c.args.sx c.args.v ≤ length c.args.xs.now =
    left_in_lem c.requires.fact_1 c.args.xs.now c.args.ys.now c.requires.fact_2 c.requires.fact_3
    c.loop-j.invariant.1.from c.loop-j-test.true c.left_row-i.ensures in
    omega (arith, left)

pub slice_bounds-rows-end : goal.slice_bounds-rows-end
slice_bounds-rows-end c =
    let left : c.left_row-i.result * at c.args.sx c.args.v + at c.args.sx c.args.v ≤ length c.args.xs.now =
    left_in_lem c.requires.fact_1 c.args.xs.now c.args.ys.now c.requires.fact_2 c.requires.fact_3
    c.loop-j.invariant.1.from c.loop-j-test.true c.left_row-i.ensures in
    omega (arith, left)

pub overflow_add-q : goal.overflow_add-q
overflow_add-q c =
    let right : (c.args.k - c.left_row-i.result) * at c.args.sr c.args.v + at c.args.sr c.args.v ≤ length c.args.ys.now =
    right_in_lem c.requires.fact_1 c.args.xs.now c.args.ys.now c.requires.fact_2 c.requires.fact_3
    c.loop-j.invariant.1.from c.loop-j-test.true c.left_row-i.ensures in
    omega (arith, right)

pub offset_bounds-ys-q : goal.offset_bounds-ys-q
offset_bounds-ys-q c =
    let right : (c.args.k - c.left_row-i.result) * at c.args.sr c.args.v + at c.args.sr c.args.v ≤ length c.args.ys.now =
    right_in_lem c.requires.fact_1 c.args.xs.now c.args.ys.now c.requires.fact_2 c.requires.fact_3
    c.loop-j.invariant.1.from c.loop-j-test.true c.left_row-i.ensures in
    omega (arith, right)

pub slice_bounds-rows-count-in-loop-j : goal.slice_bounds-rows-count-in-loop-j
slice_bounds-rows-count-in-loop-j c =
    let right : (c.args.k - c.left_row-i.result) * at c.args.sr c.args.v + at c.args.sr c.args.v ≤ length c.args.ys.now =
    right_in_lem c.requires.fact_1 c.args.xs.now c.args.ys.now c.requires.fact_2 c.requires.fact_3
    c.loop-j.invariant.1.from c.loop-j-test.true c.left_row-i.ensures in
    omega (arith, right)

pub slice_bounds-rows-start-in-loop-j : goal.slice_bounds-rows-start-in-loop-j
slice_bounds-rows-start-in-loop-j c =
    let right : (c.args.k - c.left_row-i.result) * at c.args.sr c.args.v + at c.args.sr c.args.v ≤ length c.args.ys.now =
    right_in_lem c.requires.fact_1 c.args.xs.now c.args.ys.now c.requires.fact_2 c.requires.fact_3
    c.loop-j.invariant.1.from c.loop-j-test.true c.left_row-i.ensures in
    omega (arith, right)

pub slice_bounds-rows-end-in-loop-j : goal.slice_bounds-rows-end-in-loop-j
slice_bounds-rows-end-in-loop-j c =
    let right : (c.args.k - c.left_row-i.result) * at c.args.sr c.args.v + at c.args.sr c.args.v ≤ length c.args.ys.now =
    right_in_lem c.requires.fact_1 c.args.xs.now c.args.ys.now c.requires.fact_2 c.requires.fact_3
    c.loop-j.invariant.1.from c.loop-j-test.true c.left_row-i.ensures in
    omega (arith, right)

pub rows-requires : goal.rows-requires
rows-requires c = (
  c.requires.fact_1,
  gathers c.requires.fact_1 c.args.xs.now c.args.ys.now c.requires.fact_2 c.requires.fact_3
      c.loop-j.invariant.1.from c.loop-j-test.true
      c.left_row-i.ensures c.loop-j.invariant.1.len,
)

pub loop-j-preserved : goal.loop-j-preserved
loop-j-preserved c =
    let f = c.loop-j.invariant.1.from in (
      omega (arith, c.loop-j-test.true),
      paired-more c.loop-j.invariant.1 (gather-step c.requires.fact_1 c.args.xs.now c.args.ys.now
          c.requires.fact_2 c.requires.fact_3 c.loop-j.invariant.1.from c.loop-j-test.true
          c.left_row-i.ensures c.loop-j.row
          c.rows.ensures),
    )

pub returns : goal.returns
returns c =
    let f = c.loop-j.invariant.1.from in
    gather_end c.args.back c.args.lx c.args.r c.args.v c.args.k
    c.args.lo c.args.hi c.args.xs.now c.args.ys.now c.loop-j.invariant.1
    c.clear.ensures c.requires.fact_2.full
    (omega (arith, c.loop-j.invariant.0, c.loop-j-test.false))
