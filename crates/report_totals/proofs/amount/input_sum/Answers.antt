use native.Mathlib.Omega.{arith}
use mathlib.Core.Path.{sym}
use lib.Seq.{length-take-le}
use Rattle.report_inputs.specs.Held.{front-known, front-few, front-full, ruled, rest-length}
use Rattle.report_totals.specs.Amounts.{sum_is}
use Rattle.report_totals.proofs.amount.input_sum.Goals as goal

pub slice_bounds-total_of-end : goal.slice_bounds-total_of-end
slice_bounds-total_of-end c = sym (length-take-le _ _ (omega arith))

pub total_of-from-requires : goal.total_of-from-requires
total_of-from-requires c = record { fact_1 = front-known c.requires.fact_1 c.args.i; fact_2 = front-few c.requires.fact_1 c.args.i }

pub stored_of-n-requires : goal.stored_of-n-requires
stored_of-n-requires c =
    rw c.header_of.ensures (ruled c.requires.fact_1 c.args.i)

pub offset_bounds-xs-from : goal.offset_bounds-xs-from
offset_bounds-xs-from c =
    omega (
      arith,
      c.total_of-from.ensures,
      front-full c.requires.fact_1 c.args.i c.requires.fact_2,
      c.requires.fact_1.small,
    )

pub slice_bounds-sum_to-count : goal.slice_bounds-sum_to-count
slice_bounds-sum_to-count c =
    omega (
      arith,
      c.total_of-from.ensures,
      front-full c.requires.fact_1 c.args.i c.requires.fact_2,
      c.requires.fact_1.small,
    )

pub slice_bounds-sum_to-start : goal.slice_bounds-sum_to-start
slice_bounds-sum_to-start c =
    omega (
      arith,
      c.total_of-from.ensures,
      front-full c.requires.fact_1 c.args.i c.requires.fact_2,
      c.requires.fact_1.small,
    )

pub sum_to-requires : goal.sum_to-requires
sum_to-requires c =
    rw (c.stored_of-n.ensures, c.header_of.ensures) (omega (
      arith,
      rest-length c.args.xs.now c.total_of-from.result,
      c.total_of-from.ensures,
      front-full c.requires.fact_1 c.args.i c.requires.fact_2,
      c.requires.fact_1.small,
    ))

pub returns : goal.returns
returns c =
    sum_is _ _ _ c.total_of-from.ensures c.header_of.ensures c.stored_of-n.ensures c.sum_to.ensures
