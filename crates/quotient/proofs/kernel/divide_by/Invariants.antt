use Rattle.lists.specs.Table.{Filled}
use Rattle.model.specs.Quotient.{divided_at}
use Rattle.quotient.proofs.kernel.divide_by.Given as goal

abbrev pub invariant-loop-k : goal.invariant-loop-k
invariant-loop-k l = Filled l.k (divided_at l.c l.a) l.initial.to l.to
