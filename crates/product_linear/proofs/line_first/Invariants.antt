use Rattle.lists.specs.Table.{Filled}
use Rattle.product_linear.specs.Rows.{lined_first}
use Rattle.product_linear.proofs.line_first.Given as goal

abbrev pub invariant-loop-k : goal.invariant-loop-k
invariant-loop-k l = Filled l.k (lined_first l.c l.a) l.initial.to l.to
