use Rattle.lists.specs.Table.{Filled}
use Rattle.blocks.specs.Rows.{line_joined}
use Rattle.blocks.proofs.join_line.Given as goal

abbrev pub invariant-loop-k : goal.invariant-loop-k
invariant-loop-k l = Filled l.k (line_joined l.minus l.with l.initial.to) l.initial.to l.to
