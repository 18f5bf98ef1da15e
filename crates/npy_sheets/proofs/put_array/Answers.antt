use native.Mathlib.Omega.{arith}
use mathlib.Core.Path.{sym}
use lib.ListN.{length-append, length-drop}
use lib.Seq.{length-take-le}
use Rattle.npy_sheets.specs.Prints.{here-small, here_ruled, here-few, x-long, array-done, array-never}
use Rattle.npy_answers.specs.Tested.{start-here}
use Rattle.npy_sheets.proofs.put_array.Goals as goal

pub word_at-head-requires : goal.word_at-head-requires
word_at-head-requires c =
    let m = start-here c.args.text.now c.lines_start-start.ensures in
    omega arith

pub stored_of-count-requires : goal.stored_of-count-requires
stored_of-count-requires c =
    here_ruled c.args.newer c.args.text.now c.requires.fact_1 c.lines_start-start.ensures c.word_at-head.ensures
    c.header_of.ensures

pub slice_bounds-fill_values-end : goal.slice_bounds-fill_values-end
slice_bounds-fill_values-end c =
    let m = here-few c.args.newer c.args.text.now c.requires.fact_1 c.lines_start-start.ensures c.word_at-head.ensures
    c.header_of.ensures c.stored_of-count.ensures in
    omega (arith, m, c.requires.fact_2.0)

pub slice_bounds-fill_values-end-2 : goal.slice_bounds-fill_values-end-2
slice_bounds-fill_values-end-2 c =
    let m = here-few c.args.newer c.args.text.now c.requires.fact_1 c.lines_start-start.ensures c.word_at-head.ensures
    c.header_of.ensures c.stored_of-count.ensures in
    sym (length-take-le _ _ (omega (arith, m, c.requires.fact_2.0)))

pub fill_values-requires : goal.fill_values-requires
fill_values-requires c =
    let m = here-few c.args.newer c.args.text.now c.requires.fact_1 c.lines_start-start.ensures c.word_at-head.ensures
    c.header_of.ensures c.stored_of-count.ensures in (
      here-small c.args.newer c.args.text.now c.requires.fact_1 c.lines_start-start.ensures c.word_at-head.ensures,
      omega
          (arith, m, length-take-le c.stored_of-count.result c.args.values.now (omega (arith, m, c.requires.fact_2.0))),
    )

pub slice_bounds-write_as-end : goal.slice_bounds-write_as-end
slice_bounds-write_as-end c =
    let m = here-few c.args.newer c.args.text.now c.requires.fact_1 c.lines_start-start.ensures c.word_at-head.ensures
    c.header_of.ensures c.stored_of-count.ensures in
    let e = x-long c.args.newer c.args.text.now c.requires.fact_1 c.lines_start-start.ensures c.word_at-head.ensures
    c.header_of.ensures c.stored_of-count.ensures
    c.args.values.now c.requires.fact_2.0 c.fill_values.ensures in
    simp (length-append, length-drop) (omega (arith, m, e, c.requires.fact_2.0))

pub slice_bounds-write_as-end-2 : goal.slice_bounds-write_as-end-2
slice_bounds-write_as-end-2 c =
    sym (length-take-le _ _ (slice_bounds-write_as-end c))

pub returns-in-Ok : goal.returns-in-Ok
returns-in-Ok c =
    array-done c.args.newer c.args.text.now c.requires.fact_1 c.lines_start-start.ensures c.word_at-head.ensures
    c.header_of.ensures c.stored_of-count.ensures
    c.args.values.now c.requires.fact_2.0 c.fill_values.ensures
    c.args.output.now c.requires.fact_2.1 c.write_as.ensures.0 c.write_as.ensures.1 _
    c.in-Ok.is

pub returns-in-Err : goal.returns-in-Err
returns-in-Err c =
    absurd (array-never c.args.newer c.args.text.now c.requires.fact_1 c.lines_start-start.ensures c.word_at-head.ensures
    c.header_of.ensures c.stored_of-count.ensures c.args.values.now c.requires.fact_2.0 c.fill_values.ensures c.args.output.now
    c.requires.fact_2.1 c.write_as.ensures.0 c.write_as.ensures.1 _ c.in-Err.is)
