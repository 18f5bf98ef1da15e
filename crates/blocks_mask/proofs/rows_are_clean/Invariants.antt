use Prim.Native.Nat.{◌*◌}
use Rattle.lists.specs.Four.{at}
use Rattle.lists.specs.Every.{Passing}
use Rattle.model.specs.Header.{count}
use Rattle.model_caps.specs.Cap.{clean_place}
use Rattle.blocks.specs.Rows.{AtRow}
use Rattle.blocks_mask.proofs.rows_are_clean.Given as goal

abbrev pub invariant-loop-row : goal.invariant-loop-row
invariant-loop-row l = AtRow l.n (l.row * at l.n 3) l.i × Passing (clean_place l.cap l.n l.of) (count l.n) 0 (l.row * at l.n 3)
