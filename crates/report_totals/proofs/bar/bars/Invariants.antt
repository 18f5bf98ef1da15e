use mathlib.Core.Path.{◌≡◌}
use lib.ListN.{length}
use Rattle.lists.specs.Table.{table}
use Rattle.report_totals.specs.Chained.{Chained}
use Rattle.model_forecast.specs.Totals.{bar_step}
use Rattle.report_totals.proofs.bar.bars.Given as goal

abbrev pub invariant-loop-i : goal.invariant-loop-i
invariant-loop-i l = (length l.found ≡ 64) × Chained bar_step (table (length l.headers) (λ k. 64)) l.steps l.initial.found l.found l.i
