use mathlib.Core.List.{map}
use lib.ListN.{length}
use Rattle.model.specs.Word.{header_of}
use Rattle.model_faults.specs.Own.{small_at}
use Rattle.report_say.specs.First.{Looking}
use Rattle.report_causes.proofs.own.first_large.Given as goal

abbrev pub invariant-loop-p : goal.invariant-loop-p
invariant-loop-p l = Looking (small_at (map header_of l.known)) (length l.known) 0 l.p
