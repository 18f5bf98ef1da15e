use Rattle.model_mending.specs.Mended.{new_line}
use Rattle.mending.specs.Changes.{Printing}
use Rattle.mending.proofs.print.put_sheet.Given as goal

abbrev pub invariant-loop-k : goal.invariant-loop-k
invariant-loop-k l = Printing (new_line l.text l.inputs l.count) l.text l.lines l.at l.initial.to l.to l.k l.from l.next
