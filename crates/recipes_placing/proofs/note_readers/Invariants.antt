use Rattle.lists.specs.Table.{Filled}
use Rattle.model_placing.specs.Placing.{last_reader}
use Rattle.recipes_placing.proofs.note_readers.Given as goal

abbrev pub invariant-loop-j : goal.invariant-loop-j
invariant-loop-j l = Filled l.j (last_reader l.inputs l.steps) l.initial.lasts l.lasts
