use native.Mathlib.Omega.{arith}
use mathlib.Core.Path.{sym, ◌∙◌}
use lib.ListN.{length-take, length-drop}
use lib.Seq.{length-take-le}
use Rattle.quotient_levels.specs.Gather.{row_fits, gather_taking}
use Rattle.quotient.specs.Firsts.{first_stride, first_fits, first_adding, first-gathered}
use borrow.Author.Rules.{rules}
use Rattle.quotient.proofs.kernel.gather_first.Goals as goal

pub overflow_mul-end : goal.overflow_mul-end
overflow_mul-end c = let t = c.requires.fact_3 in
    let a = t.apart in let m = t.room in let d = t.divisor in let o = t.before in
    omega (
      arith,
      row_fits c.requires.fact_1 c.args.work.now c.requires.fact_3,
    )

pub overflow_add-end : goal.overflow_add-end
overflow_add-end c = let t = c.requires.fact_3 in
    let a = t.apart in let m = t.room in let d = t.divisor in let o = t.before in
    omega (
      arith,
      row_fits c.requires.fact_1 c.args.work.now c.requires.fact_3,
    )

pub offset_bounds-work-q : goal.offset_bounds-work-q
offset_bounds-work-q c = let t = c.requires.fact_3 in
    let a = t.apart in let m = t.room in let d = t.divisor in let o = t.before in
    omega (
      arith,
      row_fits c.requires.fact_1 c.args.work.now c.requires.fact_3,
    )

pub slice_bounds-taken_row-start : goal.slice_bounds-taken_row-start
slice_bounds-taken_row-start c =
    let t = c.requires.fact_3 in let a = t.apart in let m = t.room in
    let d = t.divisor in let o = t.before in
    omega (arith, row_fits c.requires.fact_1 c.args.work.now c.requires.fact_3)

pub slice_bounds-taken_row-end : goal.slice_bounds-taken_row-end
slice_bounds-taken_row-end c =
    let t = c.requires.fact_3 in let a = t.apart in let m = t.room in
    let d = t.divisor in let o = t.before in
    omega (arith, row_fits c.requires.fact_1 c.args.work.now c.requires.fact_3)

pub offset_bounds-work-b : goal.offset_bounds-work-b
offset_bounds-work-b c =
    let t = c.requires.fact_3 in let a = t.apart in let m = t.room in
    let d = t.divisor in let o = t.before in
    omega (arith, row_fits c.requires.fact_1 c.args.work.now c.requires.fact_3)

pub slice_bounds-taken_row-count-2 : goal.slice_bounds-taken_row-count-2
slice_bounds-taken_row-count-2 c =
    let t = c.requires.fact_3 in let a = t.apart in let m = t.room in
    let d = t.divisor in let o = t.before in
    omega (arith, row_fits c.requires.fact_1 c.args.work.now c.requires.fact_3)

pub slice_bounds-taken_row-start-2 : goal.slice_bounds-taken_row-start-2
slice_bounds-taken_row-start-2 c =
    let t = c.requires.fact_3 in let a = t.apart in let m = t.room in
    let d = t.divisor in let o = t.before in
    omega (arith, row_fits c.requires.fact_1 c.args.work.now c.requires.fact_3)

pub slice_bounds-taken_row-end-2 : goal.slice_bounds-taken_row-end-2
slice_bounds-taken_row-end-2 c =
    let t = c.requires.fact_3 in let a = t.apart in let m = t.room in
    let d = t.divisor in let o = t.before in
    omega (arith, row_fits c.requires.fact_1 c.args.work.now c.requires.fact_3)

pub taken_row-requires : goal.taken_row-requires
taken_row-requires c =
    record { fact_1 = c.requires.fact_1; fact_2 = gather_taking c.requires.fact_1 c.args.work.now c.requires.fact_3 }

pub slice_bounds-add_dividend-end : goal.slice_bounds-add_dividend-end
slice_bounds-add_dividend-end c =
    first_fits c.requires.fact_1 c.requires.fact_2 c.args.work.now c.requires.fact_3

pub slice_bounds-add_dividend-end-2 : goal.slice_bounds-add_dividend-end-2
slice_bounds-add_dividend-end-2 c =
    sym (length-take-le _ _ (first_fits c.requires.fact_1 c.requires.fact_2 c.args.work.now c.requires.fact_3))

pub add_dividend-requires : goal.add_dividend-requires
add_dividend-requires c =
    first_adding c.requires.fact_1 c.requires.fact_2 c.args.work.now c.requires.fact_3
    (c.turn.auto.to
    ∙ (c.taken_row.auto.row ∙ c.requires.fact_3.row))

pub overflow_add-p : goal.overflow_add-p
overflow_add-p c =
    let m = c.requires.fact_3.room in let e = first_stride c.requires.fact_1 c.requires.fact_2 c.args.work.now c.requires.fact_3 in omega arith

pub offset_bounds-work-p : goal.offset_bounds-work-p
offset_bounds-work-p c =
    let m = c.requires.fact_3.room in let e = first_stride c.requires.fact_1 c.requires.fact_2 c.args.work.now c.requires.fact_3 in omega arith

pub slice_bounds-copy-count : goal.slice_bounds-copy-count
slice_bounds-copy-count c =
    let m = c.requires.fact_3.room in let e = first_stride c.requires.fact_1 c.requires.fact_2 c.args.work.now c.requires.fact_3 in omega arith

pub slice_bounds-copy-start : goal.slice_bounds-copy-start
slice_bounds-copy-start c =
    let m = c.requires.fact_3.room in let e = first_stride c.requires.fact_1 c.requires.fact_2 c.args.work.now c.requires.fact_3 in omega arith

pub slice_bounds-copy-end : goal.slice_bounds-copy-end
slice_bounds-copy-end c =
    let m = c.requires.fact_3.room in let e = first_stride c.requires.fact_1 c.requires.fact_2 c.args.work.now c.requires.fact_3 in omega arith

pub copy-requires : goal.copy-requires
copy-requires c =
    let m = c.requires.fact_3.room in
    let e = first_stride c.requires.fact_1 c.requires.fact_2 c.args.work.now c.requires.fact_3 in
    let n =
    c.add_dividend.auto.row
    ∙ (c.turn.auto.to ∙ (c.taken_row.auto.row ∙ c.requires.fact_3.row)) in
    simp (length-take, length-drop) (omega (arith, n))

pub returns : goal.returns
returns c = record {
  laid = let m = c.requires.fact_3.room in
      let e = first_stride c.requires.fact_1 c.requires.fact_2 c.args.work.now c.requires.fact_3 in
      first-gathered c.requires.fact_1 c.requires.fact_2 c.args.work.now c.requires.fact_3
      c.taken_row.ensures c.turn.ensures
      c.add_dividend.ensures
      c.copy.ensures;
  spent = search rules;
}
