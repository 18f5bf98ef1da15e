use lib.Ieee.{mul, binary64}
use Rattle.lists.specs.Walk.{Walked}
use Rattle.model.specs.Readings.{one_f}
use Rattle.model.specs.Constructed.{whole_f}
use Rattle.change_factors.proofs.factorial.Given as goal

abbrev pub invariant-loop-i : goal.invariant-loop-i
invariant-loop-i l = Walked (λ j acc. mul binary64 acc (whole_f j)) 1 l.i one_f l.product
