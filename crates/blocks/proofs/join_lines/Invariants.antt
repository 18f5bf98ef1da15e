use Rattle.lists.specs.Table.{Filled}
use Rattle.blocks.specs.Combine.{line_sum}
use Rattle.blocks.proofs.join_lines.Given as goal

abbrev pub invariant-loop-k : goal.invariant-loop-k
invariant-loop-k l = Filled l.k (line_sum l.minus l.a l.b) l.initial.to l.to
