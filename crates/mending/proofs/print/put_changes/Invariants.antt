use Rattle.model_mending.specs.Mended.{change_text}
use Rattle.mending.specs.Changes.{Printing}
use Rattle.mending.proofs.print.put_changes.Given as goal

abbrev pub invariant-loop-k : goal.invariant-loop-k
invariant-loop-k l = Printing (change_text l.text l.inputs l.count) l.text l.lines 0 l.initial.to l.to l.k l.from l.next
