use Rattle.std.proofs.Common.{arith, ◌*◌}
use Rattle.lists.specs.Four.{at}
use Rattle.shape_words.specs.Lengths.{sizes-of}
use Rattle.blocks.specs.ByRow.{by-start, by-row, by-rows, by_fits, row-begins, rows-small, copied}
use Rattle.readings_row.specs.Rows.{pick-begins, pick_in, pick-from, pick-row}
use Rattle.readings_row.proofs.pick_rows.Goals as goal

pub overflow_mul-row-end : goal.overflow_mul-row-end
overflow_mul-row-end c = omega (arith, (rows-small (sizes-of c.requires.to)).0)

pub overflow_mul-row-end-2 : goal.overflow_mul-row-end-2
overflow_mul-row-end-2 c = omega (arith, (rows-small (sizes-of c.requires.to)).1)

pub loop-row-init : goal.loop-row-init
loop-row-init c = by-start (sizes-of c.requires.to) c.requires.full

pub place_of-from-requires : goal.place_of-from-requires
place_of-from-requires c =
    let more = row-begins (sizes-of c.requires.to) c.loop-row.row c.loop-row-test.true in
    record {
      fact_1 = sizes-of c.requires.from;
      fact_2 = pick_in c.args.n c.args.c c.args.v c.args.order c.args.a.now c.args.to.now c.requires c.loop-row.invariant more;
    }

pub overflow_add-from : goal.overflow_add-from
overflow_add-from c =
    let more = row-begins (sizes-of c.requires.to) c.loop-row.row c.loop-row-test.true in
    let fits = pick-from c.args.n c.args.c c.args.v c.args.order c.args.a.now c.args.to.now c.requires c.loop-row.invariant more in
    omega (arith, c.place_of-from.ensures, fits)

pub offset_bounds-a-from : goal.offset_bounds-a-from
offset_bounds-a-from c =
    let more = row-begins (sizes-of c.requires.to) c.loop-row.row c.loop-row-test.true in
    let fits = pick-from c.args.n c.args.c c.args.v c.args.order c.args.a.now c.args.to.now c.requires c.loop-row.invariant more in
    omega (arith, c.place_of-from.ensures, fits)

pub slice_bounds-copy-end : goal.slice_bounds-copy-end
slice_bounds-copy-end c =
    let more = row-begins (sizes-of c.requires.to) c.loop-row.row c.loop-row-test.true in
    let fits = pick-from c.args.n c.args.c c.args.v c.args.order c.args.a.now c.args.to.now c.requires c.loop-row.invariant more in
    omega (arith, c.place_of-from.ensures, fits)

pub next_row-next-requires : goal.next_row-next-requires
next_row-next-requires c =
    let more = row-begins (sizes-of c.requires.to) c.loop-row.row c.loop-row-test.true in
    record {
      fact_1 = sizes-of c.requires.to;
      fact_2 = pick-begins c.args.n c.args.c c.args.v c.args.order c.args.a.now c.args.to.now c.requires c.loop-row.invariant more;
    }

pub slice_bounds-copy-end-in-loop-row : goal.slice_bounds-copy-end-in-loop-row
slice_bounds-copy-end-in-loop-row c =
    let more = row-begins (sizes-of c.requires.to) c.loop-row.row c.loop-row-test.true in
    let fits = by_fits (sizes-of c.requires.to) c.requires.full c.loop-row.invariant more in
    omega (arith, fits)

pub loop-row-preserved : goal.loop-row-preserved
loop-row-preserved c =
    let more = row-begins (sizes-of c.requires.to) c.loop-row.row c.loop-row-test.true in
    let fits = by_fits (sizes-of c.requires.to) c.requires.full c.loop-row.invariant more in
    by-row (sizes-of c.requires.to) c.requires.full c.loop-row.row c.loop-row.invariant more (omega arith)
    (pick-row c.args.n c.args.c c.args.v c.args.order c.args.a.now c.args.to.now c.requires c.loop-row.invariant more
    (rw (← c.place_of-from.ensures)
    (copied (at c.args.c 3) (c.loop-row.row * at c.args.c 3) c.place_of-from.result c.args.a.now c.loop-row.to fits c.copy.ensures)))
    c.next_row-next.ensures

pub returns : goal.returns
returns c = by-rows (sizes-of c.requires.to) c.requires.full c.loop-row.row c.loop-row.invariant c.loop-row-test.false
