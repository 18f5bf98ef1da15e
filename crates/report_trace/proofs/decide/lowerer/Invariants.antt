use mathlib.Core.List.{map}
use Rattle.lists.specs.Walk.{Walked}
use Rattle.model.specs.Word.{header_of}
use Rattle.model_texts.specs.Trace.{seek}
use Rattle.report_trace.proofs.decide.lowerer.Given as goal

abbrev pub invariant-loop : goal.invariant-loop
invariant-loop l = Walked (λ j. seek (map header_of l.known) l.v l.steps l.inputs) 0 l.counter l.p l.place
