use Prim.Native.Nat.{◌<◌, ◌+◌, ◌-◌, ◌*◌}
use native.Mathlib.Omega.{arith}
use mathlib.Core.Path.{◌≡◌, refl, sym, ap, ◌∙◌}
use lib.ListN.{length}
use Rattle.lists.specs.Four.{at}
use Rattle.lists.specs.Table.{length-table}
use Rattle.lists.specs.Part.{length_part, below-same}
use Rattle.shape_words.specs.InRow.{in_row}
use Rattle.shape_words.specs.Lengths.{row_small}
use Rattle.series_gathering.specs.Gather.{gathered}
use Rattle.series_gathering.specs.Kept.{kept_put}
use Rattle.series_log.specs.LogRow.{log-fits, log_gathers, log-reach, some-rows, operand_in, operand-less, operand_row, joins, left-short, left-long}
use Rattle.series_log.proofs.log_gather.Goals as goal

pub overflow_mul-at : goal.overflow_mul-at
overflow_mul-at c =
    omega (arith, log-fits c.requires.fact_1 c.requires.fact_2, c.requires.fact_2.work)

pub first_turn-lo-requires : goal.first_turn-lo-requires
first_turn-lo-requires c =
    row_small c.requires.fact_1.strided.result c.requires.fact_2.some c.requires.fact_2.turn

pub overflow_add-n : goal.overflow_add-n
overflow_add-n c =
    omega (arith, log-fits c.requires.fact_1 c.requires.fact_2, c.requires.fact_2.work)

pub slice_bounds-gather_rows-end : goal.slice_bounds-gather_rows-end
slice_bounds-gather_rows-end c =
    omega (arith, log-fits c.requires.fact_1 c.requires.fact_2, c.requires.fact_2.work)

pub gather_rows-requires : goal.gather_rows-requires
gather_rows-requires c =
    record {
      fact_1 = c.requires.fact_1.strided;
      fact_2 = log_gathers c.requires.fact_1 c.requires.fact_2
          (length_part c.args.n (c.args.n + c.args.k * (at c.args.sr c.args.v))
          c.args.work.now (omega arith) (omega
          (arith, log-fits c.requires.fact_1 c.requires.fact_2, c.requires.fact_2.work))) refl;
      fact_3 = log-reach (some-rows c.requires.fact_1 c.requires.fact_2) c.first_turn-lo.ensures;
    }

pub returns-then-m-k : goal.returns-then-m-k
returns-then-m-k c =
    record {
      row = left-short c.requires.fact_1 c.requires.fact_2 c.args.xs.now c.args.work.now
          c.first_turn-lo.ensures c.gather_rows.ensures
          c.turn.ensures c.if-m-k.true;
      work = (below-same);
    }

pub overflow_mul-from : goal.overflow_mul-from
overflow_mul-from c =
    omega (arith, operand_in c.requires.fact_1 c.requires.fact_2 c.if-m-k.false)

pub overflow_add-from : goal.overflow_add-from
overflow_add-from c =
    omega (arith, operand_in c.requires.fact_1 c.requires.fact_2 c.if-m-k.false)

pub offset_bounds-xs-from : goal.offset_bounds-xs-from
offset_bounds-xs-from c =
    omega (arith, operand_in c.requires.fact_1 c.requires.fact_2 c.if-m-k.false)

pub slice_bounds-add_operand-end : goal.slice_bounds-add_operand-end
slice_bounds-add_operand-end c =
    omega (arith, operand_in c.requires.fact_1 c.requires.fact_2 c.if-m-k.false)

pub overflow_add-p : goal.overflow_add-p
overflow_add-p c =
    let rooms : 8 * length c.args.work.now < 18446744073709551616 =
    omega arith in
    omega (arith, operand-less c.requires.fact_1 c.requires.fact_2, c.requires.fact_2.work, rooms)

pub offset_bounds-work-p : goal.offset_bounds-work-p
offset_bounds-work-p c =
    let rooms : 8 * length c.args.work.now < 18446744073709551616 =
    omega arith in
    omega (arith, operand-less c.requires.fact_1 c.requires.fact_2, c.requires.fact_2.work, rooms)

pub slice_bounds-add_operand-end-2 : goal.slice_bounds-add_operand-end-2
slice_bounds-add_operand-end-2 c =
    omega (arith, operand-less c.requires.fact_1 c.requires.fact_2, c.requires.fact_2.work)

pub add_operand-requires : goal.add_operand-requires
unfolding gathered
add_operand-requires c =
    let made : length c.turn.new.to ≡ in_row c.args.r c.args.v =
    ap length c.turn.ensures ∙ (length-table _ _ ∙ (ap length c.gather_rows.ensures ∙ length-table _ _)) in
    let d : c.args.k * (at c.args.sx c.args.v) + (at c.args.sx c.args.v)
    - c.args.k * (at c.args.sx c.args.v)
    ≡ (at c.args.sx c.args.v) = omega arith in
    let e : 2 * c.args.n + (at c.args.sx c.args.v) - 2 * c.args.n
    ≡ (at c.args.sx c.args.v) = omega arith in record {
      fact_1 = row_small c.requires.fact_1.strided.result c.requires.fact_2.some c.requires.fact_2.turn;
      fact_2 = (length_part (2 * c.args.n) (2 * c.args.n + (at c.args.sx c.args.v))
          c.args.work.now (omega arith) (omega
          (arith, operand-less c.requires.fact_1 c.requires.fact_2, c.requires.fact_2.work)) ∙ e)
          ∙ sym (length_part (c.args.k * (at c.args.sx c.args.v))
          (c.args.k * (at c.args.sx c.args.v) + (at c.args.sx c.args.v))
          c.args.xs.now (omega arith) (omega
          (arith, operand_in c.requires.fact_1 c.requires.fact_2 c.if-m-k.false)) ∙ d);
      fact_3 = joins c.requires.fact_1 c.requires.fact_2 c.after_of-ax.ensures
          c.after_of-ar.ensures
          (length_part (c.args.k * (at c.args.sx c.args.v))
          (c.args.k * (at c.args.sx c.args.v) + (at c.args.sx c.args.v))
          c.args.xs.now (omega arith) (omega
          (arith, operand_in c.requires.fact_1 c.requires.fact_2 c.if-m-k.false)) ∙ d) (made);
    }

pub returns : goal.returns
returns c =
    let d : c.args.k * (at c.args.sx c.args.v) + (at c.args.sx c.args.v)
    - c.args.k * (at c.args.sx c.args.v)
    ≡ (at c.args.sx c.args.v) = omega arith in
    let e : 2 * c.args.n + (at c.args.sx c.args.v) - 2 * c.args.n
    ≡ (at c.args.sx c.args.v) = omega arith in record {
      row = left-long c.requires.fact_1 c.requires.fact_2 c.args.xs.now c.args.work.now
          c.first_turn-lo.ensures c.gather_rows.ensures c.turn.ensures c.if-m-k.false
          c.after_of-ax.ensures c.after_of-ar.ensures
          (operand_row c.requires.fact_1 c.requires.fact_2 c.args.xs.now) c.add_operand.ensures.row_after;
      work = ((kept_put (2 * c.args.n) (2 * c.args.n + (at c.args.sx c.args.v))
          c.args.work.now {xs = c.add_operand.new.times}
          (c.add_operand.auto.times
          ∙ ((length_part (2 * c.args.n) (2 * c.args.n + (at c.args.sx c.args.v))
          c.args.work.now (omega arith) (omega
          (arith, operand-less c.requires.fact_1 c.requires.fact_2, c.requires.fact_2.work)) ∙ e) ∙ sym e)) (omega arith)
          (omega (arith, operand-less c.requires.fact_1 c.requires.fact_2, c.requires.fact_2.work)) refl).below);
    }
