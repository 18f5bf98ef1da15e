use Rattle.change_sums.specs.Sums.{Summed}
use Rattle.change_sums.proofs.sum_rows.Given as goal

abbrev pub invariant-loop-j : goal.invariant-loop-j
invariant-loop-j l = Summed l.s l.j l.a l.to
