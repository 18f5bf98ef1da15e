use Rattle.npy_bytes.specs.Words.{PutData}
use Rattle.npy_bytes.proofs.put_data.Given as goal

abbrev pub invariant-loop-x : goal.invariant-loop-x
invariant-loop-x l = PutData l.xs l.at l.initial.to l.to l.next l.x-index
