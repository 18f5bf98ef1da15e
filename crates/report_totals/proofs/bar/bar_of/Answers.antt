use native.Mathlib.Omega.{arith}
use Rattle.model_forecast.specs.Totals.{bar_of}
use Rattle.report_totals.specs.Amounts.{other_at}
use Rattle.report_totals.proofs.bar.bar_of.Goals as goal

pub returns-in_default : goal.returns-in_default
unfolding bar_of
returns-in_default c = other_at _ _ _ _ _ _ _ _ c.args.s.kind
    (((((((c.requires, λ e. omega arith), λ e. omega arith), λ e. omega arith), λ e. omega arith), λ e. omega arith), λ e. omega arith), λ e. omega arith)
