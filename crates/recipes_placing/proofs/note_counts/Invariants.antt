use lib.ListN.{get_or}
use Rattle.lists.specs.Table.{Filled}
use Rattle.model.specs.Header.{stored}
use Rattle.model.specs.Word.{header_of}
use Rattle.recipes_placing.proofs.note_counts.Given as goal

abbrev pub invariant-loop-j : goal.invariant-loop-j
invariant-loop-j l = Filled l.j (λ j'. stored (header_of (get_or l.words j' 0))) l.initial.counts l.counts
