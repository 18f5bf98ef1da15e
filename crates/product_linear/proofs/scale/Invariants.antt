use Rattle.lists.specs.Table.{Filled}
use Rattle.model.specs.Product.{scaled_at}
use Rattle.product_linear.proofs.scale.Given as goal

abbrev pub invariant-loop-k : goal.invariant-loop-k
invariant-loop-k l = Filled l.k (scaled_at l.c l.a) l.initial.to l.to
