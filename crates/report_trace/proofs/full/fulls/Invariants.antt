use mathlib.Core.List.{map}
use Rattle.model.specs.Word.{header_of}
use Rattle.report_trace.specs.Traced.{Grown}
use Rattle.model_texts.specs.Full.{full_next}
use Rattle.report_trace.proofs.full.fulls.Given as goal

abbrev pub invariant-loop-k : goal.invariant-loop-k
invariant-loop-k l = Grown (full_next (map header_of l.known) l.steps l.inputs) l.initial.full l.full l.k
