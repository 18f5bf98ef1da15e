use Rattle.std.proofs.Common.{refl, arith, mul-le-mul, length-take, length-drop}
use Rattle.shape_words.specs.Lengths.{sizes-of}
use Rattle.blocks.specs.ByRow.{by-none, by-put, by_end}
use Rattle.npy_columns.specs.Lines.{width_of, along_as, lined_as, row-begins, row-along, row_is}
use Rattle.npy_columns.specs.Lines.{row_most, row_more, rows-none, rows-next, rows-end}
use Rattle.npy_columns.proofs.rows.Goals as goal

pub overflow_mul-step : goal.overflow_mul-step
overflow_mul-step g c = omega (arith, mul-le-mul c.requires.fact_1.m0 c.requires.fact_1.m1)

pub overflow_mul-step-2 : goal.overflow_mul-step-2
overflow_mul-step-2 g c = omega (arith, mul-le-mul (mul-le-mul c.requires.fact_1.m0 c.requires.fact_1.m1) c.requires.fact_1.m2)

pub loop-r-init : goal.loop-r-init
loop-r-init g c = (refl, rows-none c.args.n (by-none (sizes-of c.requires.fact_1) c.requires.fact_2.full))

pub column_of-from-requires : goal.column_of-from-requires
column_of-from-requires g c =
    record {
      fact_1 = c.requires.fact_1;
      fact_2 = (row-begins (width_of g.row.WIDTH) c.args.file.now c.args.at c.args.n c.requires.fact_1 c.args.out.now
          c.requires.fact_2 c.loop-r.invariant.1 (row_more c.requires.fact_1 c.loop-r.r (omega arith))).inside;
    }

pub slice_bounds-line-end : goal.slice_bounds-line-end
slice_bounds-line-end g c =
    omega (arith, row_most c.args.n c.loop-r.r (omega arith), c.loop-r.invariant.1.done.len, c.requires.fact_2.full)

pub line-requires : goal.line-requires
line-requires g c =
    let fits = row_most c.args.n c.loop-r.r (omega arith) in
    let l = c.loop-r.invariant.1.done.len in
    let f = c.requires.fact_2.full in
    along_as (row-along (width_of g.row.WIDTH) c.args.file.now c.args.at c.args.n c.requires.fact_1 c.args.out.now c.requires.fact_2
    c.loop-r.invariant.1 (row_more c.requires.fact_1 c.loop-r.r (omega arith))) c.column_of-from.ensures refl
    (simp (length-take, length-drop) (omega arith))

pub next_row-next-requires : goal.next_row-next-requires
next_row-next-requires g c =
    record {
      fact_1 = sizes-of c.requires.fact_1;
      fact_2 = row-begins (width_of g.row.WIDTH) c.args.file.now c.args.at c.args.n c.requires.fact_1
          c.args.out.now c.requires.fact_2 c.loop-r.invariant.1 (row_more c.requires.fact_1 c.loop-r.r (omega arith));
    }

pub loop-r-preserved : goal.loop-r-preserved
loop-r-preserved g c =
    let fits = row_most c.args.n c.loop-r.r (omega arith) in
    let more = row_more c.requires.fact_1 c.loop-r.r (omega arith) in
    let l = c.loop-r.invariant.1.done.len in
    let f = c.requires.fact_2.full in (
      refl,
      rows-next c.args.n c.loop-r.r (by-put (sizes-of c.requires.fact_1) c.requires.fact_2.full c.loop-r.invariant.1 more (omega arith)
          (row_is (width_of g.row.WIDTH) c.args.file.now c.args.at c.args.n c.requires.fact_1 c.args.out.now c.requires.fact_2
          c.loop-r.invariant.1 more
          (lined_as (width_of g.row.WIDTH) c.args.file.now c.args.at c.line.ensures (simp (length-take, length-drop) (omega arith))
          c.column_of-from.ensures refl)) c.next_row-next.ensures),
    )

pub returns : goal.returns
returns g c =
    by_end (sizes-of c.requires.fact_1) c.requires.fact_2.full c.loop-r.invariant.1 (rows-end c.args.n c.loop-r.r (omega arith))
