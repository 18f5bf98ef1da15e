use Rattle.model.specs.Readings.{one_f}
use Rattle.model_forecast.specs.Totals.{squared_number}
use Rattle.report_totals.specs.Powers.{Raising}
use Rattle.report_totals.proofs.power.number_power.Given as goal

abbrev pub invariant-loop-left : goal.invariant-loop-left
invariant-loop-left l = Raising (squared_number 32 l.e one_f l.x) l.left l.reached l.base

abbrev pub decreases-loop-left : goal.decreases-loop-left
decreases-loop-left l = l.left
