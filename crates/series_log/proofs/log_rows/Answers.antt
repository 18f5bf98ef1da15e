use native.Mathlib.Omega.{arith}
use mathlib.Core.Path.{refl, sym, ◌∙◌}
use Prim.Native.Nat.{◌-◌}
use lib.ListN.{length, take}
use lib.Seq.{length-take-le}
use borrow.Table.Elements.{same_len}
use borrow.Author.Rules.{rules}
use Rattle.lists.specs.Four.{at}
use Rattle.shape_words.specs.Lengths.{lengths-pos, row_small}
use Rattle.series_log.specs.LogRow.{LogRoom, log-under}
use Rattle.series_log.specs.LogRows.{log-one, log-more, log-all}
use Rattle.series_log.specs.LogBlock.{log-width, log-room}
use Rattle.series_log.proofs.log_rows.Goals as goal

pub loop-k-init : goal.loop-k-init
loop-k-init c =
    let h = lengths-pos c.requires.fact_1.strided.result c.args.v c.requires.fact_3 in (log-one, refl)

pub slice_bounds-log_row-end : goal.slice_bounds-log_row-end
slice_bounds-log_row-end c =
    omega (arith, log-width c.requires.fact_1 c.requires.fact_2 c.requires.fact_3, c.loop-k.invariant.1)

pub slice_bounds-log_row-end-in-loop-k : goal.slice_bounds-log_row-end-in-loop-k
slice_bounds-log_row-end-in-loop-k c =
    sym (length-take-le (at c.args.sr c.args.v) c.loop-k.row
    (omega (arith, log-width c.requires.fact_1 c.requires.fact_2 c.requires.fact_3, c.loop-k.invariant.1)))

pub log_row-requires : goal.log_row-requires
log_row-requires c =
    let room : LogRoom c.args.lx c.args.r c.args.v c.loop-k.k c.args.n
    (length c.args.xs.now) (length c.loop-k.work)
    (length (take (at c.args.sr c.args.v) c.loop-k.row)) =
    log-room c.requires.fact_1 c.requires.fact_2 c.requires.fact_3 c.loop-k.invariant.0.from
    c.loop-k-test.true c.loop-k.invariant.0.len
    (length-take-le (at c.args.sr c.args.v) c.loop-k.row
    (omega (arith, log-width c.requires.fact_1 c.requires.fact_2 c.requires.fact_3, c.loop-k.invariant.1))) in
    record { fact_1 = c.requires.fact_1; fact_2 = room }

pub loop-k-preserved : goal.loop-k-preserved
loop-k-preserved c =
    let room : LogRoom c.args.lx c.args.r c.args.v c.loop-k.k c.args.n
    (length c.args.xs.now) (length c.loop-k.work)
    (length (take (at c.args.sr c.args.v) c.loop-k.row)) =
    log-room c.requires.fact_1 c.requires.fact_2 c.requires.fact_3 c.loop-k.invariant.0.from
    c.loop-k-test.true c.loop-k.invariant.0.len
    (length-take-le (at c.args.sr c.args.v) c.loop-k.row
    (omega (arith, log-width c.requires.fact_1 c.requires.fact_2 c.requires.fact_3, c.loop-k.invariant.1))) in (
      log-more c.args.lx c.args.r c.args.v c.args.xs.now c.loop-k.invariant.0
          c.log_row.ensures.rowed (log-under c.requires.fact_1 (room))
          (let w = c.requires.fact_2.work in omega arith),
      same_len (at c.args.sr c.args.v) c.loop-k.row
          c.log_row.new.row
          c.log_row.auto.row ∙ c.loop-k.invariant.1,
    )

pub returns : goal.returns
returns c = record {
  work_after = log-all c.args.r c.requires.fact_3 c.loop-k.invariant.0
      (let h = lengths-pos c.requires.fact_1.strided.result c.args.v c.requires.fact_3 in omega arith);
  spent = (search rules);
}
