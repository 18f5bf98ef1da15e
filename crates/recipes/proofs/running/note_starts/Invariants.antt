use Rattle.recipes.specs.Standing.{Starting}
use Rattle.recipes.proofs.running.note_starts.Given as goal

abbrev pub invariant-loop-i : goal.invariant-loop-i
invariant-loop-i l = Starting l.headers l.initial.starts l.starts l.from l.i
