use Rattle.recipes_check.specs.Counts.{Topped}
use Rattle.recipes_check.proofs.largest_of.Given as goal

abbrev pub invariant-loop-word : goal.invariant-loop-word
invariant-loop-word l = Topped l.words l.top l.word-index
