use Prim.Native.Nat.{◌+◌}
use lib.ListN.{length, get_or}
use lib.Ieee.{nan, add, neg, binary64}
use Rattle.lists.specs.Table.{table}
use Rattle.quotient_lessening.specs.Laid.{Laid}
use Rattle.quotient_lessening.proofs.lessen.Given as goal

abbrev pub invariant-loop-i : goal.invariant-loop-i
invariant-loop-i l = Laid l.to (table l.i (λ j. add binary64 (neg (get_or l.row j nan)) (get_or l.initial.work (l.from + j) nan)))
    (length l.initial.work) l.initial.work l.work
