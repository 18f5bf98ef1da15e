use mathlib.Core.Path.{◌≡◌}
use lib.ListN.{length}
use Rattle.lists.specs.Table.{table}
use Rattle.report_totals.specs.Chained.{Chained}
use Rattle.model_forecast.specs.Totals.{amount_step, input_sum}
use Rattle.report_totals.proofs.amount.amounts.Given as goal

abbrev pub invariant-loop-i : goal.invariant-loop-i
invariant-loop-i l = (length l.found ≡ 64) × Chained amount_step (table (length l.headers) (input_sum l.headers l.xs)) l.steps l.initial.found l.found l.i
