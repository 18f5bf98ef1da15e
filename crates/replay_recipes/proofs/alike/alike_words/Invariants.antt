use Rattle.replay_recipes.specs.Alike.{AlikeTo, word_in}
use Rattle.replay_recipes.proofs.alike.alike_words.Given as goal

abbrev pub invariant-loop-k : goal.invariant-loop-k
invariant-loop-k l = AlikeTo (word_in l.xs) l.at l.k
