use native.Mathlib.Omega.{arith}
use mathlib.Core.Path.{refl, sym}
use lib.ListN.{length, length-set}
use lib.Seq.{length-take-le}
use Rattle.report_totals.specs.Chained.{tabled-none, tabled-more, tabled_end, front_same}
use Rattle.model_forecast.specs.Totals.{bars}
use Rattle.report_totals.proofs.bar.bars.Goals as goal

pub loop-i-init : goal.loop-i-init
loop-i-init c =
    (refl, tabled-none _ _ _ _ _ (front_same (length c.args.headers.now) 64 64 (omega (arith, c.requires))) (omega (arith, c.requires)))

pub overflow_add-at : goal.overflow_add-at
overflow_add-at c = omega (arith, c.requires)

pub offset_bounds-steps-i : goal.offset_bounds-steps-i
offset_bounds-steps-i c = omega (arith, c.requires)

pub bounds-steps-i : goal.bounds-steps-i
bounds-steps-i c = c.loop-i-test.true

pub slice_bounds-found-end : goal.slice_bounds-found-end
slice_bounds-found-end c = omega (arith, c.loop-i.invariant.0, c.requires)

pub slice_bounds-bar_step-end : goal.slice_bounds-bar_step-end
slice_bounds-bar_step-end c =
    sym (length-take-le _ _ (omega (arith, c.loop-i.invariant.0, c.requires)))

pub offset_bounds-found-at : goal.offset_bounds-found-at
offset_bounds-found-at c = omega (arith, c.loop-i.invariant.0, c.requires)

pub bounds-found-at : goal.bounds-found-at
bounds-found-at c = omega (arith, c.loop-i.invariant.0, c.requires)

pub loop-i-smaller : goal.loop-i-smaller
loop-i-smaller c = omega (arith, c.loop-i-test.true)

pub loop-i-preserved : goal.loop-i-preserved
loop-i-preserved c = (
  simp length-set c.loop-i.invariant.0,
  tabled-more _ _ c.loop-i.invariant.1 c.bar_step.ensures c.loop-i-test.true,
)

pub returns : goal.returns
unfolding bars
returns c = tabled_end _ _ c.loop-i.invariant.1 c.loop-i-test.false
