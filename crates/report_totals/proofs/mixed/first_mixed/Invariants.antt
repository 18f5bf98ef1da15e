use mathlib.Core.List.{map}
use Rattle.model.specs.Word.{header_of}
use Rattle.report_trace.specs.Traced.{Grown}
use Rattle.model_forecast.specs.Mixed.{mixed_next}
use Rattle.report_totals.proofs.mixed.first_mixed.Given as goal

abbrev pub invariant-loop-k : goal.invariant-loop-k
invariant-loop-k l = Grown (mixed_next (map header_of l.known) l.steps l.inputs l.full) l.initial.found l.found l.k
