use lib.ListN.{drop}
use Rattle.npy_grammar.specs.Reading.{digits_at}
use Rattle.npy_pieces.specs.Places.{Counting}
use Rattle.npy_pieces.proofs.digits_at.Given as goal

abbrev pub invariant-loop-k : goal.invariant-loop-k
invariant-loop-k l = Counting l.text (digits_at l.first (drop l.at l.text)) l.k l.n
