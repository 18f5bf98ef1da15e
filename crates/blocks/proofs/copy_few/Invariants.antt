use lib.ListN.{get_or}
use lib.Ieee.{nan}
use Rattle.lists.specs.Table.{Filled}
use Rattle.blocks.proofs.copy_few.Given as goal

abbrev pub invariant-loop-k : goal.invariant-loop-k
invariant-loop-k l = Filled l.k (λ j. get_or l.from j nan) l.initial.to l.to
