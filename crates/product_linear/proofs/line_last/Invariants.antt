use Rattle.lists.specs.Table.{Filled}
use Rattle.product_linear.specs.Rows.{lined_last}
use Rattle.product_linear.proofs.line_last.Given as goal

abbrev pub invariant-loop-k : goal.invariant-loop-k
invariant-loop-k l = Filled l.k (lined_last l.m l.a) l.initial.to l.to
