use Rattle.lists.specs.Table.{Filled}
use Rattle.model_forecast.specs.Totals.{input_sum}
use Rattle.report_totals.proofs.amount.input_sums.Given as goal

abbrev pub invariant-loop-i : goal.invariant-loop-i
invariant-loop-i l = Filled l.i (input_sum l.headers l.xs) l.initial.sums l.sums
