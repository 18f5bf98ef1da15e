use Rattle.std.proofs.Common.{◌≡◌, ◌-◌}
use Rattle.model.specs.Poly.{block}
use Rattle.model.specs.Linear.{linear, linear_from}
use Rattle.readings.proofs.line.linear_of.Given as goal

abbrev pub invariant-loop-v : goal.invariant-loop-v
invariant-loop-v l = linear (block l.n l.a) ≡ linear_from (block l.n l.a) (4 - l.v) l.v
