use Rattle.recipes_placing.specs.Reading.{Looking}
use Rattle.recipes_placing.proofs.last_reader.Given as goal

abbrev pub invariant-loop-i : goal.invariant-loop-i
invariant-loop-i l = Looking l.steps l.place l.own l.last l.i
