use Rattle.mending.specs.Lines.{Going}
use Rattle.mending.proofs.lines.line_at.Given as goal

abbrev pub invariant-loop : goal.invariant-loop
invariant-loop l = Going l.text l.k l.counter l.at
