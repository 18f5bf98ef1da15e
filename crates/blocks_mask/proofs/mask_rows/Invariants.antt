use Prim.Native.Nat.{◌*◌}
use Rattle.lists.specs.Four.{at}
use Rattle.model_caps.specs.Cap.{capped_at}
use Rattle.blocks.specs.ByRow.{ByRow}
use Rattle.blocks_mask.proofs.mask_rows.Given as goal

abbrev pub invariant-loop-row : goal.invariant-loop-row
invariant-loop-row l = ByRow l.n (capped_at l.cap l.n l.initial.to) l.initial.to l.to (l.row * at l.n 3) l.i
