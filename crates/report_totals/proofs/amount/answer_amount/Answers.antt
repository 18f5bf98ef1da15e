use native.Mathlib.Omega.{arith}
use mathlib.Core.List.{List}
use mathlib.Core.Path.{sym, ap, ◌∙◌}
use lib.ListN.{get_or}
use lib.Seq.{length-take-le}
use lib.Ieee.{Float, nan}
use Rattle.model_forecast.specs.Totals.{last_place, answer_amount}
use Rattle.report_totals.proofs.amount.answer_amount.Goals as goal

pub slice_bounds-amount_at-end : goal.slice_bounds-amount_at-end
slice_bounds-amount_at-end c = sym (length-take-le _ _ (omega (arith, c.requires.fact_2)))

pub returns : goal.returns
unfolding answer_amount
returns c =
    c.amount_at.ensures ∙ ap (λ (l : List Float). get_or l (last_place c.args.headers.now c.args.steps.now) nan) c.amounts-found.ensures
