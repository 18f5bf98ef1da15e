use Rattle.report_totals.specs.Amounts.{bar-is}
use Rattle.report_totals.proofs.bar.bar_step.Goals as goal

pub returns : goal.returns
returns c = bar-is _ _ c.step_of-s.ensures c.found_at-x.ensures c.found_at-y.ensures c.bar_of.ensures
