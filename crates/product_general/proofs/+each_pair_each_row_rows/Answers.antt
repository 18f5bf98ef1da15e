use Rattle.std.proofs.Common.{◌≡◌, ◌+◌, ◌-◌, ◌*◌, ◌<◌, ◌≤◌, true, length, sym, ◌∙◌, arith}
use Rattle.lists.specs.Four.{at}
use Rattle.model.specs.General.{steps, alone}
use Rattle.shape_words.specs.Lengths.{lengths-pos, row_small}
use Rattle.shape_words.specs.Strides.{stride-at, span_pos, first_in}
use Rattle.product_general.specs.Rows.{Several}
use Rattle.product_general.specs.Product.{alone-by}
use Rattle.product_general.specs.Plane.{rows-lined}
use Rattle.product_general.specs.Pairs.{paired_none, paired-more, rows_step, pairs_end, row-none, row_next, rows_end, rows_none}
use Rattle.product_general.specs.Bounds.{line-size, Turn, turn, left_in_lem, right_in_lem, rowing-next, result_in, pairing-of}
use Rattle.product_general.proofs.+each_pair_each_row_rows.Goals as goal

pub each_pair-from-lo-requires : goal.each_pair-from-lo-requires
each_pair-from-lo-requires t c = row_small c.requires.0.result c.requires.1.some c.requires.1.row

pub each_pair-upto-hi-requires : goal.each_pair-upto-hi-requires
each_pair-upto-hi-requires t c = row_small c.requires.0.result c.requires.1.some c.requires.1.row

pub each_pair-loop-j-init : goal.each_pair-loop-j-init
each_pair-loop-j-init t c = (omega arith, paired_none c.requires.1.full)

pub each_pair-overflow_mul-p : goal.each_pair-overflow_mul-p
each_pair-overflow_mul-p t c =
    let turned : Turn (at c.args.lx c.args.v) (at c.args.ly c.args.v) c.args.k c.loop-j.j = turn (lengths-pos c.requires.0.right _
    c.requires.1.some) c.from-lo.ensures c.upto-hi.ensures c.loop-j.invariant.1.from c.loop-j-test.true in
    omega (arith, left_in_lem c.requires.0 c.requires.1 turned)

pub each_pair-overflow_mul-q : goal.each_pair-overflow_mul-q
each_pair-overflow_mul-q t c =
    let turned : Turn (at c.args.lx c.args.v) (at c.args.ly c.args.v) c.args.k c.loop-j.j = turn (lengths-pos c.requires.0.right _
    c.requires.1.some) c.from-lo.ensures c.upto-hi.ensures c.loop-j.invariant.1.from c.loop-j-test.true in
    omega (arith, right_in_lem c.requires.0 c.requires.1 turned)

pub each_pair-offset_bounds-xs-p : goal.each_pair-offset_bounds-xs-p
each_pair-offset_bounds-xs-p t c =
    let turned : Turn (at c.args.lx c.args.v) (at c.args.ly c.args.v) c.args.k c.loop-j.j = turn (lengths-pos c.requires.0.right _
    c.requires.1.some) c.from-lo.ensures c.upto-hi.ensures c.loop-j.invariant.1.from c.loop-j-test.true in
    omega (arith, left_in_lem c.requires.0 c.requires.1 turned)

pub each_pair-slice_bounds-rows-count : goal.each_pair-slice_bounds-rows-count
each_pair-slice_bounds-rows-count t c =
    let turned : Turn (at c.args.lx c.args.v) (at c.args.ly c.args.v) c.args.k c.loop-j.j = turn (lengths-pos c.requires.0.right _
    c.requires.1.some) c.from-lo.ensures c.upto-hi.ensures c.loop-j.invariant.1.from c.loop-j-test.true in
    omega (arith, left_in_lem c.requires.0 c.requires.1 turned)

pub each_pair-slice_bounds-rows-start : goal.each_pair-slice_bounds-rows-start
each_pair-slice_bounds-rows-start t c =
    let turned : Turn (at c.args.lx c.args.v) (at c.args.ly c.args.v) c.args.k c.loop-j.j = turn (lengths-pos c.requires.0.right _
    c.requires.1.some) c.from-lo.ensures c.upto-hi.ensures c.loop-j.invariant.1.from c.loop-j-test.true in
    omega (arith, left_in_lem c.requires.0 c.requires.1 turned)

pub each_pair-offset_bounds-ys-q : goal.each_pair-offset_bounds-ys-q
each_pair-offset_bounds-ys-q t c =
    let turned : Turn (at c.args.lx c.args.v) (at c.args.ly c.args.v) c.args.k c.loop-j.j = turn (lengths-pos c.requires.0.right _
    c.requires.1.some) c.from-lo.ensures c.upto-hi.ensures c.loop-j.invariant.1.from c.loop-j-test.true in
    omega (arith, right_in_lem c.requires.0 c.requires.1 turned)

pub each_pair-slice_bounds-rows-count-in-loop-j : goal.each_pair-slice_bounds-rows-count-in-loop-j
each_pair-slice_bounds-rows-count-in-loop-j t c =
    let turned : Turn (at c.args.lx c.args.v) (at c.args.ly c.args.v) c.args.k c.loop-j.j = turn (lengths-pos c.requires.0.right _
    c.requires.1.some) c.from-lo.ensures c.upto-hi.ensures c.loop-j.invariant.1.from c.loop-j-test.true in
    omega (arith, right_in_lem c.requires.0 c.requires.1 turned)

pub each_pair-slice_bounds-rows-start-in-loop-j : goal.each_pair-slice_bounds-rows-start-in-loop-j
each_pair-slice_bounds-rows-start-in-loop-j t c =
    let turned : Turn (at c.args.lx c.args.v) (at c.args.ly c.args.v) c.args.k c.loop-j.j = turn (lengths-pos c.requires.0.right _
    c.requires.1.some) c.from-lo.ensures c.upto-hi.ensures c.loop-j.invariant.1.from c.loop-j-test.true in
    omega (arith, right_in_lem c.requires.0 c.requires.1 turned)

pub each_pair-rows-requires : goal.each_pair-rows-requires
each_pair-rows-requires t c =
    let turned : Turn (at c.args.lx c.args.v) (at c.args.ly c.args.v) c.args.k c.loop-j.j = turn (lengths-pos c.requires.0.right _
    c.requires.1.some) c.from-lo.ensures c.upto-hi.ensures c.loop-j.invariant.1.from c.loop-j-test.true in
    let h = c.requires.1.some in (
      omega (arith, c.decreases),
      (c.requires.0, rowing-next c.requires.0 c.args.xs.now c.args.ys.now c.requires.1 turned c.loop-j.invariant.1.len),
    )

pub each_pair-loop-j-preserved : goal.each_pair-loop-j-preserved
each_pair-loop-j-preserved t c =
    let f = c.loop-j.invariant.1.from in (
      omega (arith, c.loop-j-test.true),
      paired-more c.loop-j.invariant.1 (rows_step c.args.lx c.args.ly c.args.r c.args.v c.args.k (at c.args.sx c.args.v) (at c.args.sy c.args.v)
          c.loop-j.j c.args.xs.now c.args.ys.now c.loop-j.row c.rows.ensures),
    )

pub each_pair-returns : goal.each_pair-returns
each_pair-returns t c =
    let f = c.loop-j.invariant.1.from in
    let e : c.loop-j.j ≡ c.from-lo.result + steps (at c.args.lx c.args.v) (at c.args.ly c.args.v) c.args.k =
    omega (arith, c.from-lo.ensures, c.upto-hi.ensures, c.loop-j.invariant.0, c.loop-j-test.false) in
    pairs_end c.args.lx c.args.ly c.args.r c.args.v c.args.k (at c.args.sx c.args.v) (at c.args.sy c.args.v) c.args.xs.now c.args.ys.now
    c.loop-j.invariant.1 c.from-lo.ensures e

pub each_row-loop-k-init : goal.each_row-loop-k-init
each_row-loop-k-init t c = row-none (at c.args.sr c.args.v)

pub each_row-overflow_mul-at : goal.each_row-overflow_mul-at
each_row-overflow_mul-at t c =
    let fits : c.loop-k.k * at c.args.sr c.args.v + at c.args.sr c.args.v ≤ length c.loop-k.res = omega (
      arith,
      result_in c.requires.0
          c.requires.1.0 c.requires.1.1 c.loop-k-test.true,
      c.loop-k.invariant.len,
    ) in
    omega (arith, fits)

pub each_row-overflow_add-at : goal.each_row-overflow_add-at
each_row-overflow_add-at t c =
    let fits : c.loop-k.k * at c.args.sr c.args.v + at c.args.sr c.args.v ≤ length c.loop-k.res = omega (
      arith,
      result_in c.requires.0
          c.requires.1.0 c.requires.1.1 c.loop-k-test.true,
      c.loop-k.invariant.len,
    ) in
    omega (arith, fits)

pub each_row-offset_bounds-res-at : goal.each_row-offset_bounds-res-at
each_row-offset_bounds-res-at t c =
    let fits : c.loop-k.k * at c.args.sr c.args.v + at c.args.sr c.args.v ≤ length c.loop-k.res = omega (
      arith,
      result_in c.requires.0
          c.requires.1.0 c.requires.1.1 c.loop-k-test.true,
      c.loop-k.invariant.len,
    ) in
    omega (arith, fits)

pub each_row-slice_bounds-each_pair-end : goal.each_row-slice_bounds-each_pair-end
each_row-slice_bounds-each_pair-end t c =
    let fits : c.loop-k.k * at c.args.sr c.args.v + at c.args.sr c.args.v ≤ length c.loop-k.res = omega (
      arith,
      result_in c.requires.0
          c.requires.1.0 c.requires.1.1 c.loop-k-test.true,
      c.loop-k.invariant.len,
    ) in
    omega (arith, fits)

pub each_row-each_pair-requires : goal.each_row-each_pair-requires
each_row-each_pair-requires t c =
    let e : c.loop-k.k * at c.args.sr c.args.v + at c.args.sr c.args.v - c.loop-k.k * at c.args.sr c.args.v ≡ at c.args.sr c.args.v = omega arith in (
      omega (arith, c.decreases),
      (c.requires.0, pairing-of c.requires.0 c.requires.1.0 c.requires.1.1 c.loop-k-test.true c.loop-k.res c.loop-k.invariant.len e),
    )

pub each_row-loop-k-preserved : goal.each_row-loop-k-preserved
each_row-loop-k-preserved t c =
    let h = c.requires.1.1.some in
    let e : c.loop-k.k * at c.args.sr c.args.v + at c.args.sr c.args.v - c.loop-k.k * at c.args.sr c.args.v ≡ at c.args.sr c.args.v = omega arith in
    row_next c.args.lx c.args.ly c.args.r c.requires.0.result c.args.v c.requires.1.1 c.args.xs.now c.args.ys.now c.loop-k.invariant
    c.loop-k-test.true (stride-at c.args.r c.requires.0.by_r h) e (stride-at c.args.lx c.requires.0.by_x h)
    (stride-at c.args.ly c.requires.0.by_y h) c.each_pair.ensures
    (result_in c.requires.0 c.requires.1.0 c.requires.1.1 c.loop-k-test.true)

pub each_row-returns : goal.each_row-returns
each_row-returns t c =
    let h = c.requires.1.1.some in
    rows_end c.args.lx c.args.ly c.args.r c.args.v c.args.xs.now c.args.ys.now c.loop-k.invariant h
    (stride-at c.args.r c.requires.0.by_r h) (omega arith) c.requires.1.0.full

pub rows-bounds-res-0 : goal.rows-bounds-res-0
rows-bounds-res-0 t c = omega (arith, c.requires.1.full, span_pos c.requires.0.result c.requires.1.within)

pub rows-bounds-xs-0 : goal.rows-bounds-xs-0
rows-bounds-xs-0 t c = omega (arith, c.requires.1.room_x, span_pos c.requires.0.left c.requires.1.within)

pub rows-bounds-ys-0 : goal.rows-bounds-ys-0
rows-bounds-ys-0 t c = omega (arith, c.requires.1.room_y, span_pos c.requires.0.right c.requires.1.within)

pub rows-bounds-res-0-then-v-eq4 : goal.rows-bounds-res-0-then-v-eq4
rows-bounds-res-0-then-v-eq4 t c = omega (arith, c.requires.1.full, span_pos c.requires.0.result c.requires.1.within)

pub rows-returns-then-v-eq4 : goal.rows-returns-then-v-eq4
rows-returns-then-v-eq4 t c = rows_none c.args.lx c.args.ly c.args.r c.args.xs.now c.args.ys.now c.args.res.now c.if-v-eq4.true c.requires.1.full

pub rows-each_line-requires : goal.rows-each_line-requires
rows-each_line-requires t c =
    let some : c.args.v < 4 = omega (arith, c.requires.1.within, c.if-v-eq4.false) in
    let one_long : alone c.args.r (4 - (c.args.v + 1)) c.args.v ≡ true = sym (alone-by c.args.r c.requires.0.by_r some) ∙ c.if-r-v.true in
    record {
      below = omega arith;
      small = omega arith;
      size = line-size c.requires.0.result some one_long c.requires.1.full;
      left = λ j p q. omega (arith, first_in c.requires.0.left some c.requires.1.room_x);
      right = λ j p q. omega (arith, first_in c.requires.0.right some c.requires.1.room_y);
    }

pub rows-returns-then-r-v : goal.rows-returns-then-r-v
rows-returns-then-r-v t c =
    let some : c.args.v < 4 = omega (arith, c.requires.1.within, c.if-v-eq4.false) in
    let one_long : alone c.args.r (4 - (c.args.v + 1)) c.args.v ≡ true = sym (alone-by c.args.r c.requires.0.by_r some) ∙ c.if-r-v.true in
    rows-lined c.args.lx c.args.ly c.args.r c.args.v c.args.xs.now c.args.ys.now c.args.res.now c.requires.0.result some one_long
    c.requires.1.full c.each_line.ensures

pub rows-two_long-requires-clause-fact_3 : goal.rows-two_long-requires-clause-fact_3
rows-two_long-requires-clause-fact_3 t c =
    let some : c.args.v < 4 = omega (arith, c.requires.1.within, c.if-v-eq4.false) in
    let several : Several c.args.r c.args.v = record { some = some; more = sym (alone-by c.args.r c.requires.0.by_r some) ∙ c.if-r-v.false } in
    several

pub rows-two_long-requires-clause-fact_4 : goal.rows-two_long-requires-clause-fact_4
rows-two_long-requires-clause-fact_4 t c = record { next = c.if-w-lt4.true; last = sym (alone-by c.args.r c.requires.0.by_r c.if-w-lt4.true) ∙ c.if-r-w.true }

pub rows-each_row-requires : goal.rows-each_row-requires
rows-each_row-requires t c =
    let some : c.args.v < 4 = omega (arith, c.requires.1.within, c.if-v-eq4.false) in
    let several : Several c.args.r c.args.v = record { some = some; more = sym (alone-by c.args.r c.requires.0.by_r some) ∙ c.if-r-v.false } in
    (omega (arith, c.decreases), (c.requires.0, (c.requires.1, several)))
