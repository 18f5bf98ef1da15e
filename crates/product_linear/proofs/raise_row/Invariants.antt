use Rattle.lists.specs.Table.{Filled}
use Rattle.product_linear.specs.Rows.{raised_row}
use Rattle.product_linear.proofs.raise_row.Given as goal

abbrev pub invariant-loop-k : goal.invariant-loop-k
invariant-loop-k l = Filled l.k (raised_row l.m l.s l.a) l.initial.to l.to
