use Rattle.std.proofs.Common.{◌≡◌, ◌+◌, ◌-◌, ◌*◌, ◌≤◌, ◌++◌, length, length-append, length-drop, drop, refl, sym, ◌∙◌, arith}
use lib.Seq.{length-take-le}
use Rattle.shape_words.specs.Lengths.{row_small}
use Rattle.lists.specs.Four.{at}
use Rattle.quotient_levels.specs.Room.{Room}
use Rattle.quotient_levels.specs.Levels.{level-row, level-top, level_in, level-gather, level-next, level-line, level-several, rows_none, rows_more, rows_all}
use Rattle.quotient_levels.proofs.+each_row_level.Goals as goal

pub each_row-overflow_add-end : goal.each_row-overflow_add-end
each_row-overflow_add-end t c = omega (arith, level-top c.requires.0 c.requires.1.0)

pub each_row-loop-k-init : goal.each_row-loop-k-init
each_row-loop-k-init t c = (refl, rows_none c.requires.0 c.args.work.now c.requires.1.0)

pub each_row-overflow_mul-at : goal.each_row-overflow_mul-at
each_row-overflow_mul-at t c =
    let a = c.requires.1.0.apart in let o = c.requires.1.0.room in let z = c.requires.1.0.ends in
    let inside : c.args.q + c.loop-k.k * at c.args.sr c.args.v + at c.args.sr c.args.v ≤ length c.args.work.now =
    omega (arith, level_in c.requires.0 c.requires.1.0 c.loop-k-test.true, level-top c.requires.0 c.requires.1.0) in
    omega (arith, inside)

pub each_row-overflow_add-at : goal.each_row-overflow_add-at
each_row-overflow_add-at t c =
    let a = c.requires.1.0.apart in let o = c.requires.1.0.room in let z = c.requires.1.0.ends in
    let inside : c.args.q + c.loop-k.k * at c.args.sr c.args.v + at c.args.sr c.args.v ≤ length c.args.work.now =
    omega (arith, level_in c.requires.0 c.requires.1.0 c.loop-k-test.true, level-top c.requires.0 c.requires.1.0) in
    omega (arith, inside)

pub each_row-slice_bounds-gather-end : goal.each_row-slice_bounds-gather-end
each_row-slice_bounds-gather-end t c =
    let room : Room c.args.ly c.args.r c.args.v c.args.p c.args.e c.args.q c.args.b c.args.f (length c.loop-k.work) (length c.loop-k.row) =
    rw (c.loop-k.invariant.0, c.loop-k.invariant.1.len) c.requires.1.0 in
    level-row c.requires.0 room

pub each_row-slice_bounds-gather-end-in-loop-k : goal.each_row-slice_bounds-gather-end-in-loop-k
each_row-slice_bounds-gather-end-in-loop-k t c =
    let room : Room c.args.ly c.args.r c.args.v c.args.p c.args.e c.args.q c.args.b c.args.f (length c.loop-k.work) (length c.loop-k.row) =
    rw (c.loop-k.invariant.0, c.loop-k.invariant.1.len) c.requires.1.0 in
    let fits : at c.args.sr c.args.v ≤ length c.loop-k.row = level-row c.requires.0 room in
    sym (length-take-le _ _ fits)

pub each_row-gather-requires-clause-fact_2 : goal.each_row-gather-requires-clause-fact_2
each_row-gather-requires-clause-fact_2 t c =
    let room : Room c.args.ly c.args.r c.args.v c.args.p c.args.e c.args.q c.args.b c.args.f (length c.loop-k.work) (length c.loop-k.row) =
    rw (c.loop-k.invariant.0, c.loop-k.invariant.1.len) c.requires.1.0 in
    let fits : at c.args.sr c.args.v ≤ length c.loop-k.row = level-row c.requires.0 room in
    level-gather c.requires.0 room c.loop-k-test.true (length-take-le _ _ fits)

pub each_row-level-requires : goal.each_row-level-requires
each_row-level-requires t c =
    let room : Room c.args.ly c.args.r c.args.v c.args.p c.args.e c.args.q c.args.b c.args.f (length c.loop-k.work) (length c.loop-k.row) =
    rw (c.loop-k.invariant.0, c.loop-k.invariant.1.len) c.requires.1.0 in
    let fits : at c.args.sr c.args.v ≤ length c.loop-k.row = level-row c.requires.0 room in
    let n = c.gather.auto.row ∙ length-take-le _ _ fits in
    let kept : length (c.gather.new.row ++ drop (at c.args.sr c.args.v) c.loop-k.row) ≡ length c.args.row.now =
    simp (length-append, length-drop) (omega (arith, n, fits, c.loop-k.invariant.0)) in
    let room2 : Room c.args.ly c.args.r c.args.v c.args.p c.args.e c.args.q c.args.b c.args.f (length c.gather.new.work) (length
    (c.gather.new.row ++ drop (at c.args.sr c.args.v) c.loop-k.row)) =
    rw (kept, c.gather.ensures.laid.len, c.loop-k.invariant.1.len) c.requires.1.0 in
    let h = c.requires.1.0.some in (
      omega (arith, c.decreases),
      (c.requires.0, level-next c.requires.0 room2 c.loop-k-test.true c.requires.1.1 refl),
    )

pub each_row-loop-k-preserved : goal.each_row-loop-k-preserved
each_row-loop-k-preserved t c =
    let room : Room c.args.ly c.args.r c.args.v c.args.p c.args.e c.args.q c.args.b c.args.f (length c.loop-k.work) (length c.loop-k.row) =
    rw (c.loop-k.invariant.0, c.loop-k.invariant.1.len) c.requires.1.0 in
    let fits : at c.args.sr c.args.v ≤ length c.loop-k.row = level-row c.requires.0 room in
    let n = c.gather.auto.row ∙ length-take-le _ _ fits in
    let kept : length (c.gather.new.row ++ drop (at c.args.sr c.args.v) c.loop-k.row) ≡ length c.args.row.now =
    simp (length-append, length-drop) (omega (arith, n, fits, c.loop-k.invariant.0)) in (
      c.level.auto.row ∙ kept,
      rows_more c.requires.0 c.args.work.now c.requires.1.0 c.loop-k-test.true c.loop-k.invariant.1 c.gather.ensures.laid c.level.ensures.laid,
    )

pub each_row-returns-clause-laid : goal.each_row-returns-clause-laid
each_row-returns-clause-laid t c = rows_all c.requires.0 c.args.work.now c.requires.1.0 (omega arith) c.loop-k.invariant.1

pub level-line-requires : goal.level-line-requires
level-line-requires t c = level-line c.requires.0 c.requires.1 c.if-sr-v-eq1.true

pub level-each_row-requires : goal.level-each_row-requires
level-each_row-requires t c = (omega (arith, c.decreases), (c.requires.0, (c.requires.1, level-several c.requires.0 c.requires.1 c.if-sr-v-eq1.false)))
