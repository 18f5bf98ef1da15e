use lib.ListN.{drop}
use Rattle.npy_pieces.specs.Places.{Eating}
use Rattle.npy_pieces.proofs.eat_word.Given as goal

abbrev pub invariant-loop-x : goal.invariant-loop-x
invariant-loop-x l = Eating l.text l.word (drop l.at l.text) l.x-index l.p
