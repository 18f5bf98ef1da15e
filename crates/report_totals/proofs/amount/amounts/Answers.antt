use native.Mathlib.Omega.{arith}
use mathlib.Core.Path.{sym}
use lib.ListN.{length-set}
use lib.Seq.{length-take-le}
use Rattle.report_totals.specs.Chained.{tabled-none, tabled-more, tabled_end}
use Rattle.model_forecast.specs.Totals.{amounts}
use Rattle.report_totals.proofs.amount.amounts.Goals as goal

pub input_sums-found-requires : goal.input_sums-found-requires
input_sums-found-requires c = c.requires.fact_1

pub loop-i-init : goal.loop-i-init
loop-i-init c = (
  c.input_sums-found.ensures.0,
  tabled-none _ _ _ _ _ c.input_sums-found.ensures.1 (omega (arith, c.input_sums-found.ensures.0, c.requires.fact_2)),
)

pub overflow_add-at : goal.overflow_add-at
overflow_add-at c = omega (arith, c.requires.fact_2)

pub offset_bounds-steps-i : goal.offset_bounds-steps-i
offset_bounds-steps-i c = omega (arith, c.requires.fact_2)

pub bounds-steps-i : goal.bounds-steps-i
bounds-steps-i c = c.loop-i-test.true

pub slice_bounds-found-end : goal.slice_bounds-found-end
slice_bounds-found-end c = omega (arith, c.loop-i.invariant.0, c.requires.fact_2)

pub slice_bounds-amount_step-end : goal.slice_bounds-amount_step-end
slice_bounds-amount_step-end c =
    sym (length-take-le _ _ (omega (
      arith,
      c.loop-i.invariant.0,
      c.requires.fact_2,
    )))

pub offset_bounds-found-at : goal.offset_bounds-found-at
offset_bounds-found-at c =
    omega (
      arith,
      c.loop-i.invariant.0,
      c.requires.fact_2,
    )

pub bounds-found-at : goal.bounds-found-at
bounds-found-at c =
    omega (
      arith,
      c.loop-i.invariant.0,
      c.requires.fact_2,
    )

pub loop-i-smaller : goal.loop-i-smaller
loop-i-smaller c = omega (arith, c.loop-i-test.true)

pub loop-i-preserved : goal.loop-i-preserved
loop-i-preserved c = (
  simp length-set c.loop-i.invariant.0,
  tabled-more _ _ c.loop-i.invariant.1 c.amount_step.ensures c.loop-i-test.true,
)

pub returns : goal.returns
unfolding amounts
returns c = tabled_end _ _ c.loop-i.invariant.1 c.loop-i-test.false
