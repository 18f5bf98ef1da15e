use Rattle.mending.specs.Lines.{Lining}
use Rattle.mending.proofs.reading.all_lined.Given as goal

abbrev pub invariant-loop : goal.invariant-loop
invariant-loop l = Lining l.text l.n l.from l.counter l.at
