use lib.ListN.{get_or}
use Rattle.lists.specs.Walk.{Walked}
use Rattle.settings_command.specs.Argument.{pushed}
use Rattle.settings_command.proofs.argument.number.Given as goal

abbrev pub invariant-loop-b : goal.invariant-loop-b
invariant-loop-b l = Walked (λ p m. pushed (get_or l.text p 0) m) 0 l.b-index 0 l.value
