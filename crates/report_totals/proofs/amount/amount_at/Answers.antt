use Rattle.report_totals.specs.Amounts.{past}
use mathlib.Core.Path.{◌∙◌}
use Rattle.report_totals.proofs.amount.amount_at.Goals as goal

pub returns : goal.returns
returns c = c.unknown.ensures ∙ past c.args.found.now c.args.p _ c.if-p-found.false
