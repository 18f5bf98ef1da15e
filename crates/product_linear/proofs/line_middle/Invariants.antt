use Rattle.lists.specs.Table.{Filled}
use Rattle.product_linear.specs.Rows.{lined_middle}
use Rattle.product_linear.proofs.line_middle.Given as goal

abbrev pub invariant-loop-k : goal.invariant-loop-k
invariant-loop-k l = Filled l.k (lined_middle l.m l.a l.c l.b) l.initial.to l.to
