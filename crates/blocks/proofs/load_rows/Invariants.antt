use Prim.Native.Nat.{◌*◌}
use Rattle.lists.specs.Four.{at}
use Rattle.model.specs.Places.{index}
use Rattle.model.specs.Poly.{block, read_at}
use Rattle.blocks.specs.ByRow.{ByRow}
use Rattle.blocks.proofs.load_rows.Given as goal

abbrev pub invariant-loop-row : goal.invariant-loop-row
invariant-loop-row l = ByRow l.c (λ k. read_at (block l.n l.a) (index l.c k)) l.initial.to l.to (l.row * at l.c 3) l.i
