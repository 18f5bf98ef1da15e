use Rattle.npy_header.specs.Shapes.{Listing}
use Rattle.npy_header.proofs.more_numbers.Given as goal

abbrev pub invariant-loop : goal.invariant-loop
invariant-loop l = Listing l.text l.at l.initial.held l.counter l.p l.held
