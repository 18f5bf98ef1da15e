use mathlib.Core.Path.{◌≡◌}
use Prim.Native.Nat.{◌*◌}
use Rattle.blocks.specs.ByRow.{ByRow}
use Rattle.npy_columns.specs.Lines.{width_of, last_of, step_of, columns_of}
use Rattle.npy_columns.proofs.rows.Given as goal

abbrev pub invariant-loop-r : goal.invariant-loop-r
invariant-loop-r g l = (l.step ≡ step_of l.n) × ByRow l.n (columns_of (width_of g.row.WIDTH) l.file l.at l.n) l.initial.out l.out (l.r * last_of l.n) l.i
