use borrow.Table.Elements.{same_len}
use native.Mathlib.Omega.{arith}
use mathlib.Core.Path.{◌≡◌, refl, sym, ap, ◌∙◌}
use Prim.Native.Nat.{◌+◌, ◌-◌, ◌*◌}
use lib.ListN.{length, take, drop}
use lib.Seq.{length-take-le}
use borrow.Rule.Slice.PartMut.{put_mid}
use borrow.Author.Rules.{rules}
use Rattle.lists.specs.Four.{at}
use Rattle.lists.specs.Part.{length_part, Kept, below_less}
use Rattle.lists.specs.Stack.{stack}
use Rattle.shape_words.specs.Lengths.{lengths-pos, row_small}
use Rattle.series_exp.specs.Room.{RowRoom}
use Rattle.series_exp.specs.NextRow.{weighed, next_row}
use Rattle.series_exp.specs.Stacked.{stacked-one, row_more, stacked-all, rows_end, rows_fit, row_room, row_fits}
use Rattle.series_exp.specs.Stacked.{operand-fits, some-width, few-rows, weigh-kept, first_under, width_in}
use Rattle.series_exp.proofs.exp_rows.Goals as goal

pub overflow_mul-e : goal.overflow_mul-e
overflow_mul-e c =
    omega (arith, operand-fits c.requires.fact_1 c.requires.fact_2 c.requires.fact_3)

pub overflow_add-e : goal.overflow_add-e
overflow_add-e c =
    omega (arith, rows_fit c.requires.fact_1 c.requires.fact_2 c.requires.fact_3)

pub offset_bounds-work-n : goal.offset_bounds-work-n
offset_bounds-work-n c =
    omega (arith, rows_fit c.requires.fact_1 c.requires.fact_2 c.requires.fact_3)

pub slice_bounds-weigh-count : goal.slice_bounds-weigh-count
slice_bounds-weigh-count c =
    omega (arith, rows_fit c.requires.fact_1 c.requires.fact_2 c.requires.fact_3)

pub slice_bounds-weigh-start : goal.slice_bounds-weigh-start
slice_bounds-weigh-start c =
    omega (arith, rows_fit c.requires.fact_1 c.requires.fact_2 c.requires.fact_3)

pub slice_bounds-weigh-end : goal.slice_bounds-weigh-end
slice_bounds-weigh-end c =
    omega (arith, rows_fit c.requires.fact_1 c.requires.fact_2 c.requires.fact_3)

pub weigh-requires : goal.weigh-requires
weigh-requires c =
    let lent : length (take ((c.args.n + at c.args.lx c.args.v * at c.args.sx c.args.v)
    - c.args.n) (drop c.args.n c.args.work.now))
    ≡ at c.args.lx c.args.v * at c.args.sx c.args.v =
    let d : (c.args.n + at c.args.lx c.args.v * at c.args.sx c.args.v)
    - c.args.n ≡ at c.args.lx c.args.v * at c.args.sx c.args.v =
    omega arith in
    length_part c.args.n (c.args.n + at c.args.lx c.args.v * at c.args.sx
    c.args.v) c.args.work.now (omega arith)
    (omega (arith, rows_fit c.requires.fact_1 c.requires.fact_2 c.requires.fact_3)) ∙ d in
    let l = lent in record {
      fact_1 = (
        some-width c.requires.fact_1 c.requires.fact_2 c.requires.fact_3,
        omega (arith, l, operand-fits c.requires.fact_1 c.requires.fact_2 c.requires.fact_3),
      );
      fact_2 = omega (arith, l, few-rows c.requires.fact_1 c.requires.fact_2 c.requires.fact_3);
    }

pub loop-k-init : goal.loop-k-init
loop-k-init c =
    let lent : length (take ((c.args.n + at c.args.lx c.args.v * at c.args.sx c.args.v)
    - c.args.n) (drop c.args.n c.args.work.now))
    ≡ at c.args.lx c.args.v * at c.args.sx c.args.v =
    let d : (c.args.n + at c.args.lx c.args.v * at c.args.sx c.args.v)
    - c.args.n ≡ at c.args.lx c.args.v * at c.args.sx c.args.v =
    omega arith in
    length_part c.args.n (c.args.n + at c.args.lx c.args.v * at c.args.sx
    c.args.v) c.args.work.now (omega arith)
    (omega (arith, rows_fit c.requires.fact_1 c.requires.fact_2 c.requires.fact_3)) ∙ d in
    let kept : Kept c.args.n (c.args.n + at c.args.lx c.args.v * at c.args.sx
    c.args.v) (weighed c.args.lx c.args.v c.args.xs.now) c.args.work.now
    (put_mid c.args.n
    ((c.args.n + at c.args.lx c.args.v * at c.args.sx c.args.v)
    - c.args.n) c.args.work.now c.weigh.new.to) =
    let d : (c.args.n + at c.args.lx c.args.v * at c.args.sx c.args.v)
    - c.args.n ≡ at c.args.lx c.args.v * at c.args.sx c.args.v =
    omega arith in
    weigh-kept c.requires.fact_1 c.requires.fact_2 c.requires.fact_3 c.args.work.now
    c.args.xs.now refl c.weigh.ensures (lent) d in
    let h = lengths-pos c.requires.fact_1.strided.result c.args.v c.requires.fact_3 in (stacked-one (kept), refl)

pub slice_bounds-exp_row-end : goal.slice_bounds-exp_row-end
slice_bounds-exp_row-end c =
    omega (arith, width_in c.requires.fact_1 c.requires.fact_2 c.requires.fact_3, c.loop-k.invariant.1)

pub slice_bounds-exp_row-end-in-loop-k : goal.slice_bounds-exp_row-end-in-loop-k
slice_bounds-exp_row-end-in-loop-k c =
    sym (length-take-le (at c.args.sr c.args.v) c.loop-k.row
    (omega (arith, width_in c.requires.fact_1 c.requires.fact_2 c.requires.fact_3, c.loop-k.invariant.1)))

pub exp_row-requires : goal.exp_row-requires
exp_row-requires c =
    let lent : length (take ((c.args.n + at c.args.lx c.args.v * at c.args.sx c.args.v)
    - c.args.n) (drop c.args.n c.args.work.now))
    ≡ at c.args.lx c.args.v * at c.args.sx c.args.v =
    let d : (c.args.n + at c.args.lx c.args.v * at c.args.sx c.args.v)
    - c.args.n ≡ at c.args.lx c.args.v * at c.args.sx c.args.v =
    omega arith in
    length_part c.args.n (c.args.n + at c.args.lx c.args.v * at c.args.sx
    c.args.v) c.args.work.now (omega arith)
    (omega (arith, rows_fit c.requires.fact_1 c.requires.fact_2 c.requires.fact_3)) ∙ d in
    let kept : Kept c.args.n (c.args.n + at c.args.lx c.args.v * at c.args.sx
    c.args.v) (weighed c.args.lx c.args.v c.args.xs.now) c.args.work.now
    (put_mid c.args.n
    ((c.args.n + at c.args.lx c.args.v * at c.args.sx c.args.v)
    - c.args.n) c.args.work.now c.weigh.new.to) =
    let d : (c.args.n + at c.args.lx c.args.v * at c.args.sx c.args.v)
    - c.args.n ≡ at c.args.lx c.args.v * at c.args.sx c.args.v =
    omega arith in
    weigh-kept c.requires.fact_1 c.requires.fact_2 c.requires.fact_3 c.args.work.now
    c.args.xs.now refl c.weigh.ensures (lent) d in
    let room : RowRoom c.args.lx c.args.r c.args.v c.loop-k.k c.args.n
    (c.args.n + at c.args.lx c.args.v * at c.args.sx c.args.v)
    (length c.loop-k.work) (length (take (at c.args.sr c.args.v) c.loop-k.row)) =
    row_room c.requires.fact_1 c.requires.fact_2 c.requires.fact_3 c.loop-k-test.true
    (rows_end c.requires.fact_1 c.requires.fact_2 c.requires.fact_3)
    (c.loop-k.invariant.0.len ∙ (kept).below.len)
    (length-take-le (at c.args.sr c.args.v) c.loop-k.row
    (omega (arith, width_in c.requires.fact_1 c.requires.fact_2 c.requires.fact_3, c.loop-k.invariant.1))) in
    record { fact_1 = c.requires.fact_1; fact_2 = room }

pub loop-k-preserved : goal.loop-k-preserved
loop-k-preserved c =
    let lent : length (take ((c.args.n + at c.args.lx c.args.v * at c.args.sx c.args.v)
    - c.args.n) (drop c.args.n c.args.work.now))
    ≡ at c.args.lx c.args.v * at c.args.sx c.args.v =
    let d : (c.args.n + at c.args.lx c.args.v * at c.args.sx c.args.v)
    - c.args.n ≡ at c.args.lx c.args.v * at c.args.sx c.args.v =
    omega arith in
    length_part c.args.n (c.args.n + at c.args.lx c.args.v * at c.args.sx
    c.args.v) c.args.work.now (omega arith)
    (omega (arith, rows_fit c.requires.fact_1 c.requires.fact_2 c.requires.fact_3)) ∙ d in
    let kept : Kept c.args.n (c.args.n + at c.args.lx c.args.v * at c.args.sx
    c.args.v) (weighed c.args.lx c.args.v c.args.xs.now) c.args.work.now
    (put_mid c.args.n
    ((c.args.n + at c.args.lx c.args.v * at c.args.sx c.args.v)
    - c.args.n) c.args.work.now c.weigh.new.to) =
    let d : (c.args.n + at c.args.lx c.args.v * at c.args.sx c.args.v)
    - c.args.n ≡ at c.args.lx c.args.v * at c.args.sx c.args.v =
    omega arith in
    weigh-kept c.requires.fact_1 c.requires.fact_2 c.requires.fact_3 c.args.work.now
    c.args.xs.now refl c.weigh.ensures (lent) d in
    let room : RowRoom c.args.lx c.args.r c.args.v c.loop-k.k c.args.n
    (c.args.n + at c.args.lx c.args.v * at c.args.sx c.args.v)
    (length c.loop-k.work) (length (take (at c.args.sr c.args.v) c.loop-k.row)) =
    row_room c.requires.fact_1 c.requires.fact_2 c.requires.fact_3 c.loop-k-test.true
    (rows_end c.requires.fact_1 c.requires.fact_2 c.requires.fact_3)
    (c.loop-k.invariant.0.len ∙ (kept).below.len)
    (length-take-le (at c.args.sr c.args.v) c.loop-k.row
    (omega (arith, width_in c.requires.fact_1 c.requires.fact_2 c.requires.fact_3, c.loop-k.invariant.1))) in (
      row_more c.args.lx c.args.r c.args.v c.args.xs.now c.loop-k.invariant.0
          c.exp_row.ensures.kept (row_fits (room)),
      same_len (at c.args.sr c.args.v) c.loop-k.row
          c.exp_row.new.row
          c.exp_row.auto.row ∙ c.loop-k.invariant.1,
    )

pub returns : goal.returns
returns c =
    let lent : length (take ((c.args.n + at c.args.lx c.args.v * at c.args.sx c.args.v)
    - c.args.n) (drop c.args.n c.args.work.now))
    ≡ at c.args.lx c.args.v * at c.args.sx c.args.v =
    let d : (c.args.n + at c.args.lx c.args.v * at c.args.sx c.args.v)
    - c.args.n ≡ at c.args.lx c.args.v * at c.args.sx c.args.v =
    omega arith in
    length_part c.args.n (c.args.n + at c.args.lx c.args.v * at c.args.sx
    c.args.v) c.args.work.now (omega arith)
    (omega (arith, rows_fit c.requires.fact_1 c.requires.fact_2 c.requires.fact_3)) ∙ d in
    let kept : Kept c.args.n (c.args.n + at c.args.lx c.args.v * at c.args.sx
    c.args.v) (weighed c.args.lx c.args.v c.args.xs.now) c.args.work.now
    (put_mid c.args.n
    ((c.args.n + at c.args.lx c.args.v * at c.args.sx c.args.v)
    - c.args.n) c.args.work.now c.weigh.new.to) =
    let d : (c.args.n + at c.args.lx c.args.v * at c.args.sx c.args.v)
    - c.args.n ≡ at c.args.lx c.args.v * at c.args.sx c.args.v =
    omega arith in
    weigh-kept c.requires.fact_1 c.requires.fact_2 c.requires.fact_3 c.args.work.now
    c.args.xs.now refl c.weigh.ensures (lent) d in
    record {
      work_after = stacked-all c.args.r c.requires.fact_3 c.loop-k.invariant.0
          (let h = lengths-pos c.requires.fact_1.strided.result c.args.v c.requires.fact_3 in omega arith)
          ∙ ap (stack (at c.args.r c.args.v - 1)
          (next_row c.args.lx c.args.r c.args.v c.args.xs.now))
          (below_less (first_under c.requires.fact_1 c.requires.fact_2 c.requires.fact_3)
          (kept).below).head;
      spent = search rules;
    }
