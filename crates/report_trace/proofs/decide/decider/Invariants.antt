use Rattle.lists.specs.Walk.{Walked}
use Rattle.model_texts.specs.Trace.{follow}
use mathlib.Core.List.{map}
use Rattle.model.specs.Word.{header_of}
use Rattle.report_trace.proofs.decide.decider.Given as goal

abbrev pub invariant-loop : goal.invariant-loop
invariant-loop l = Walked (λ j. follow (map header_of l.known) l.v l.steps l.inputs) 0 l.counter l.p l.place
