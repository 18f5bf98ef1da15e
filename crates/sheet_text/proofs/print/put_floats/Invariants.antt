use Rattle.sheet_text.specs.Texts.{PutFloats}
use Rattle.sheet_text.proofs.print.put_floats.Given as goal

abbrev pub invariant-loop-x : goal.invariant-loop-x
invariant-loop-x l = PutFloats l.xs l.at l.initial.to l.to l.next l.x-index
