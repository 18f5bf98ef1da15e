use Prim.Native.Nat.{◌*◌}
use lib.ListN.{get_or}
use lib.Ieee.{nan}
use Rattle.lists.specs.Four.{at}
use Rattle.model.specs.Places.{index}
use Rattle.model.specs.Poly.{block}
use Rattle.model.specs.Add.{join_at}
use Rattle.blocks.specs.ByRow.{ByRow}
use Rattle.blocks.proofs.join_rows.Given as goal

abbrev pub invariant-loop-row : goal.invariant-loop-row
invariant-loop-row l = ByRow l.r (λ k. join_at l.minus (get_or l.initial.to k nan) (block l.n l.a) (index l.r k))
    l.initial.to l.to (l.row * at l.r 3) l.i
