use Rattle.report_trace.specs.Traced.{Grown}
use Rattle.model_texts.specs.Trace.{furthest_next}
use mathlib.Core.List.{map}
use Rattle.model.specs.Word.{header_of}
use Rattle.report_trace.proofs.far.furthest.Given as goal

abbrev pub invariant-loop-k : goal.invariant-loop-k
invariant-loop-k l = Grown (furthest_next (map header_of l.known) l.v l.steps l.inputs) l.initial.found l.found l.k
