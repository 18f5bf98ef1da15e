use Rattle.recipes_check.specs.Counts.{Summed}
use Rattle.recipes_check.proofs.total_of.Given as goal

abbrev pub invariant-loop-word : goal.invariant-loop-word
invariant-loop-word l = Summed l.words l.sum l.word-index
