use native.Mathlib.Omega.{arith}
use borrow.Author.Rules.{rules}
use Rattle.std.proofs.Common.{ℕ, ◌<◌, ◌≤◌, length, sym, ◌∙◌, length-take-le}
use Rattle.lists.specs.Four.{at}
use Rattle.shape_words.specs.Strides.{span_none, first_in}
use Rattle.product_general.specs.Product.{alone-by}
use Rattle.series_log.specs.LogBlock.{rows_same, rows_next, line-room, log-none, log-alone, log_others, not-one}
use Rattle.series_log.proofs.+log_block.Goals as goal

pub bounds-work-0 : goal.bounds-work-0
bounds-work-0 t c = omega (arith, c.requires.1.rows, c.requires.1.work, span_none c.args.r c.if-v-eq4.true)

pub returns-then-v-eq4 : goal.returns-then-v-eq4
returns-then-v-eq4 t c = record {
  work_after = log-none c.args.head c.args.lx c.args.r c.args.xs.now c.args.work.now
      c.if-v-eq4.true (omega (arith, c.requires.1.rows, c.requires.1.work, span_none c.args.r c.if-v-eq4.true));
  spent = search rules;
}

pub log_line-requires : goal.log_line-requires
log_line-requires t c =
    let h : c.args.v < 4 = omega (arith, c.requires.1.within) in
    let line : at c.args.r c.args.v ≤ length c.args.work.now =
    omega (arith, first_in c.requires.0.shaped.strided.result h c.requires.1.rows, c.requires.1.work) in
    line-room c.requires.0.shaped c.requires.1 h
    (sym (alone-by c.args.r c.requires.0.shaped.strided.by_r h) ∙ c.if-r-v.true)
    (length-take-le (at c.args.r c.args.v) c.args.work.now line)

pub slice_bounds-log_line-end : goal.slice_bounds-log_line-end
slice_bounds-log_line-end t c =
    let h : c.args.v < 4 = omega (arith, c.requires.1.within) in
    omega (arith, first_in c.requires.0.shaped.strided.result h c.requires.1.rows, c.requires.1.work)

pub slice_bounds-log_line-end-then-r-v : goal.slice_bounds-log_line-end-then-r-v
slice_bounds-log_line-end-then-r-v t c =
    let h : c.args.v < 4 = omega (arith, c.requires.1.within) in
    let line : at c.args.r c.args.v ≤ length c.args.work.now =
    omega (arith, first_in c.requires.0.shaped.strided.result h c.requires.1.rows, c.requires.1.work) in
    sym (length-take-le (at c.args.r c.args.v) c.args.work.now line)

pub returns-then-r-v : goal.returns-then-r-v
returns-then-r-v t c =
    let h : c.args.v < 4 = omega (arith, c.requires.1.within) in
    let line : at c.args.r c.args.v ≤ length c.args.work.now =
    omega (arith, first_in c.requires.0.shaped.strided.result h c.requires.1.rows, c.requires.1.work) in
    record {
      work_after = log-alone c.args.head c.args.lx c.args.r c.args.xs.now c.args.work.now h
          (sym (alone-by c.args.r c.requires.0.shaped.strided.by_r h) ∙ c.if-r-v.true) c.log_line.ensures
          (length-take-le (at c.args.r c.args.v) c.args.work.now line)
          (c.log_line.auto.to ∙ length-take-le (at c.args.r c.args.v) c.args.work.now line);
      spent = search rules;
    }

pub overflow_add-v : goal.overflow_add-v
overflow_add-v t c = omega (arith, c.requires.1.within)

pub log_block-requires : goal.log_block-requires
log_block-requires t c =
    let h : c.args.v < 4 = omega (arith, c.requires.1.within) in
    (omega (arith, c.decreases), (c.requires.0, rows_next c.requires.0.shaped c.requires.1 h))

pub log_rows-requires : goal.log_rows-requires
log_rows-requires t c = record {
  fact_1 = c.requires.0.shaped;
  fact_2 = rows_same c.requires.1 c.log_block.auto.work c.log_block.auto.row;
  fact_3 = omega (arith, c.requires.1.within);
}

pub returns : goal.returns
returns t c =
    let h : c.args.v < 4 = omega (arith, c.requires.1.within) in
    let several = sym (alone-by c.args.r c.requires.0.shaped.strided.by_r h) ∙ c.if-r-v.false in
    record {
      work_after = log_others c.args.head c.args.lx c.args.r c.args.xs.now
          c.log_block.new.work c.log_rows.new.work h several c.requires.1.operand
          (not-one c.requires.0 h several) c.log_block.ensures.work_after c.log_rows.ensures.work_after;
      spent = search rules;
    }
