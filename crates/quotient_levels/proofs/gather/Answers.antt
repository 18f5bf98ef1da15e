use native.Mathlib.Omega.{arith}
use mathlib.Core.Path.{◌∙◌}
use borrow.Author.Rules.{rules}
use Rattle.quotient_levels.specs.Gather.{row_fits, gather_taking, gathered}
use Rattle.quotient_levels.proofs.gather.Goals as goal

pub overflow_mul-at : goal.overflow_mul-at
overflow_mul-at c = let t = c.requires.fact_2 in
    let a = t.apart in let z = t.ends in let m = t.room in let d = t.divisor in let o = t.before in
    omega (
      arith,
      row_fits c.requires.fact_1 c.args.work.now c.requires.fact_2,
    )

pub overflow_add-end : goal.overflow_add-end
overflow_add-end c = let t = c.requires.fact_2 in
    let a = t.apart in let z = t.ends in let m = t.room in let d = t.divisor in let o = t.before in
    omega (
      arith,
      row_fits c.requires.fact_1 c.args.work.now c.requires.fact_2,
    )

pub slice_bounds-taken_row-end : goal.slice_bounds-taken_row-end
slice_bounds-taken_row-end c =
    let t = c.requires.fact_2 in let a = t.apart in let z = t.ends in
    let m = t.room in let d = t.divisor in let o = t.before in
    omega (arith, row_fits c.requires.fact_1 c.args.work.now c.requires.fact_2)

pub slice_bounds-taken_row-end-2 : goal.slice_bounds-taken_row-end-2
slice_bounds-taken_row-end-2 c =
    let t = c.requires.fact_2 in let a = t.apart in let z = t.ends in
    let m = t.room in let d = t.divisor in let o = t.before in
    omega (arith, row_fits c.requires.fact_1 c.args.work.now c.requires.fact_2)

pub taken_row-requires : goal.taken_row-requires
taken_row-requires c =
    record { fact_1 = c.requires.fact_1; fact_2 = gather_taking c.requires.fact_1 c.args.work.now c.requires.fact_2 }

pub overflow_add-p : goal.overflow_add-p
overflow_add-p c =
    let t = c.requires.fact_2 in let a = t.apart in let z = t.ends in let m = t.room in let d = t.divisor in
    let o = t.before in
    omega (arith, row_fits c.requires.fact_1 c.args.work.now c.requires.fact_2)

pub lessen-requires : goal.lessen-requires
lessen-requires c =
    let t = c.requires.fact_2 in let a = t.apart in let z = t.ends in let m = t.room in let d = t.divisor in
    let o = t.before in
    let n = c.taken_row.auto.row ∙ t.row in (
      omega (arith, n, row_fits c.requires.fact_1 c.args.work.now c.requires.fact_2),
      omega (arith, n, row_fits c.requires.fact_1 c.args.work.now c.requires.fact_2),
    )

pub returns : goal.returns
returns c = record {
  laid = gathered c.requires.fact_1 c.args.work.now c.requires.fact_2
      c.taken_row.ensures
      c.lessen.ensures;
  spent = search rules;
}
