use Rattle.std.proofs.Common.{◌≡◌, true}
use Rattle.model.specs.Linear.{zeros_but}
use Rattle.readings.proofs.line.zeros_but.Given as goal

abbrev pub invariant-loop-k : goal.invariant-loop-k
invariant-loop-k l = zeros_but l.a l.s l.k ≡ true
