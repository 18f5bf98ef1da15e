use native.Mathlib.Omega.{arith}
use Rattle.model_forecast.specs.Totals.{amount_of}
use mathlib.Core.Path.{◌∙◌}
use Rattle.report_totals.specs.Amounts.{other_at}
use Rattle.report_totals.proofs.amount.amount_of.Goals as goal

pub returns-in_default : goal.returns-in_default
unfolding amount_of
returns-in_default c = c.unknown.ensures ∙ other_at _ _ _ _ _ _ _ _ c.args.s.kind
    (((((((c.requires, λ e. omega arith), λ e. omega arith), λ e. omega arith), λ e. omega arith), λ e. omega arith), λ e. omega arith), λ e. omega arith)
