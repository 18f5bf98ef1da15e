use mathlib.Core.List.{map}
use Rattle.model.specs.Word.{header_of}
use Rattle.report_trace.specs.Traced.{Grown}
use Rattle.model_texts.specs.Whole.{first_next}
use Rattle.report_trace.proofs.whole.first_out.Given as goal

abbrev pub invariant-loop-k : goal.invariant-loop-k
invariant-loop-k l = Grown (first_next (map header_of l.known) l.steps l.inputs l.full) l.initial.found l.found l.k
