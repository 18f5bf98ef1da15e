use native.Mathlib.Omega.{arith}
use mathlib.Core.Path.{◌≡◌, refl, ap, ◌∙◌}
use Prim.Native.Nat.{ℕ, ◌+◌, ◌-◌, ◌*◌, ◌≤◌}
use lib.ListN.{length}
use Rattle.lists.specs.Four.{at}
use Rattle.lists.specs.Table.{length-table}
use Rattle.lists.specs.Part.{length_part}
use Rattle.shape_words.specs.Lengths.{row_small}
use Rattle.shape_words.specs.Strides.{stride-at}
use Rattle.shape_words.specs.InRow.{in_row}
use Rattle.series_gathering.specs.Gather.{gathered}
use Rattle.series_exp.specs.Stacked.{row_kept, row_fits, row_gathers}
use borrow.Author.Rules.{rules}
use Rattle.series_exp.proofs.exp_row.Goals as goal

pub overflow_mul-at : goal.overflow_mul-at
overflow_mul-at c =
    let fits : c.args.k * at c.args.sr c.args.v + at c.args.sr c.args.v ≤ c.args.n =
    rw (stride-at c.args.r c.requires.fact_1.strided.by_r c.requires.fact_2.some) (row_fits c.requires.fact_2) in
    omega (arith, fits, c.requires.fact_2.ends, c.requires.fact_2.room)

pub overflow_add-end : goal.overflow_add-end
overflow_add-end c =
    let fits : c.args.k * at c.args.sr c.args.v + at c.args.sr c.args.v ≤ c.args.n =
    rw (stride-at c.args.r c.requires.fact_1.strided.by_r c.requires.fact_2.some) (row_fits c.requires.fact_2) in
    omega (arith, fits, c.requires.fact_2.ends, c.requires.fact_2.room)

pub slice_bounds-gather-end-2 : goal.slice_bounds-gather-end-2
slice_bounds-gather-end-2 c =
    let fits : c.args.k * at c.args.sr c.args.v + at c.args.sr c.args.v ≤ c.args.n =
    rw (stride-at c.args.r c.requires.fact_1.strided.by_r c.requires.fact_2.some) (row_fits c.requires.fact_2) in
    omega (arith, fits, c.requires.fact_2.ends, c.requires.fact_2.room)

pub gather-requires : goal.gather-requires
gather-requires c =
    let fits : c.args.k * at c.args.sr c.args.v + at c.args.sr c.args.v ≤ c.args.n =
    rw (stride-at c.args.r c.requires.fact_1.strided.by_r c.requires.fact_2.some) (row_fits c.requires.fact_2) in
    record {
      fact_1 = c.requires.fact_1;
      fact_2 = row_gathers c.requires.fact_2 (length_part c.args.n c.args.e c.args.work.now
          (let z = c.requires.fact_2.ends in omega arith) c.requires.fact_2.room)
          (length_part 0 (c.args.k * at c.args.sr c.args.v) c.args.work.now (omega arith)
          (omega (arith, fits, c.requires.fact_2.ends, c.requires.fact_2.room))
          ∙ rw (stride-at c.args.r c.requires.fact_1.strided.by_r c.requires.fact_2.some) (omega arith)) refl;
    }

pub divide_by-requires : goal.divide_by-requires
divide_by-requires c =
    row_small c.requires.fact_1.strided.result c.requires.fact_2.some c.requires.fact_2.turn

pub offset_bounds-work-at : goal.offset_bounds-work-at
offset_bounds-work-at c =
    let fits : c.args.k * at c.args.sr c.args.v + at c.args.sr c.args.v ≤ c.args.n =
    rw (stride-at c.args.r c.requires.fact_1.strided.by_r c.requires.fact_2.some) (row_fits c.requires.fact_2) in
    omega (arith, fits, c.requires.fact_2.ends, c.requires.fact_2.room)

pub slice_bounds-copy-end : goal.slice_bounds-copy-end
slice_bounds-copy-end c =
    let fits : c.args.k * at c.args.sr c.args.v + at c.args.sr c.args.v ≤ c.args.n =
    rw (stride-at c.args.r c.requires.fact_1.strided.by_r c.requires.fact_2.some) (row_fits c.requires.fact_2) in
    omega (arith, fits, c.requires.fact_2.ends, c.requires.fact_2.room)

pub copy-requires : goal.copy-requires
unfolding gathered
copy-requires c =
    let fits : c.args.k * at c.args.sr c.args.v + at c.args.sr c.args.v ≤ c.args.n =
    rw (stride-at c.args.r c.requires.fact_1.strided.by_r c.requires.fact_2.some) (row_fits c.requires.fact_2) in
    let made : length c.divide_by.new.to ≡ in_row c.args.r c.args.v =
    ap length c.divide_by.ensures ∙ (length-table _ _ ∙ (ap length c.gather.ensures ∙ length-table _ _)) in
    let s : ℕ = at c.args.sr c.args.v in
    let z =
    length_part (c.args.k * s) (c.args.k * s + s) c.args.work.now (omega arith)
    (omega (arith, fits, c.requires.fact_2.ends, c.requires.fact_2.room)) in
    omega (
      arith,
      z,
      made,
      stride-at c.args.r c.requires.fact_1.strided.by_r c.requires.fact_2.some,
    )

pub returns : goal.returns
returns c =
    let fits : c.args.k * at c.args.sr c.args.v + at c.args.sr c.args.v ≤ c.args.n =
    rw (stride-at c.args.r c.requires.fact_1.strided.by_r c.requires.fact_2.some) (row_fits c.requires.fact_2) in
    record {
      kept = let s : ℕ = at c.args.sr c.args.v in
          let d : c.args.k * s + s - c.args.k * s ≡ s = omega arith in
          row_kept c.requires.fact_1 c.args.work.now c.requires.fact_2 c.gather.ensures
          c.divide_by.ensures
          c.copy.ensures (length_part (c.args.k * s) (c.args.k * s + s)
          c.args.work.now (omega arith) (omega (arith, fits, c.requires.fact_2.ends, c.requires.fact_2.room))
          ∙ d) d;
      spent = search rules;
    }
