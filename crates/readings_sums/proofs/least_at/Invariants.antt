use Rattle.readings_sums.specs.First.{Short}
use Rattle.readings_sums.proofs.least_at.Given as goal

abbrev pub invariant-loop-k : goal.invariant-loop-k
invariant-loop-k l = Short l.a l.q l.k l.sum
