use lib.ListN.{drop}
use Rattle.npy_pieces.specs.Places.{passes, Passed}
use Rattle.npy_pieces.proofs.skip.Given as goal

abbrev pub invariant-loop-k : goal.invariant-loop-k
invariant-loop-k l = Passed l.text (passes l.class) (drop l.at l.text) l.k
