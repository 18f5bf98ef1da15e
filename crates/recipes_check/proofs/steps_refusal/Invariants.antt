use Rattle.recipes_check.specs.Judging.{Judging}
use mathlib.Core.List.{map}
use lib.ListN.{take}
use Rattle.model.specs.Word.{header_of}
use Rattle.recipes_check.proofs.steps_refusal.Given as goal

abbrev pub invariant-loop-i : goal.invariant-loop-i
invariant-loop-i l = Judging l.edition l.steps (map header_of (take l.inputs l.initial.known)) l.inputs l.initial.known l.known l.i
