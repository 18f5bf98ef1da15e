use Rattle.npy_writing.specs.Front.{PutRest}
use Rattle.npy_writing.proofs.put_rest.Given as goal

abbrev pub invariant-loop-k : goal.invariant-loop-k
invariant-loop-k l = PutRest l.vars l.n l.at l.initial.to l.to l.next l.k
