use Rattle.report_totals.specs.Amounts.{amount-is}
use Rattle.report_totals.proofs.amount.amount_step.Goals as goal

pub returns : goal.returns
returns c =
    amount-is _ _ c.step_of-s.ensures c.amount_at-x.ensures c.amount_at-y.ensures c.amount_of.ensures
