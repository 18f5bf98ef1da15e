use Prim.Native.Nat.{◌-◌, ◌≤◌}
use lib.ListN.{length}
use Rattle.product_general.specs.Pairs.{Paired}
use Rattle.product_general.specs.Plane.{line_at}
use Rattle.product_general.proofs.plane.each_line.Given as goal

abbrev pub invariant-loop-j : goal.invariant-loop-j
invariant-loop-j l = (l.j - l.a ≤ l.b - l.a) × Paired (length l.initial.row) (λ q. line_at l.xs l.tx l.nx l.ys l.ty l.ny l.k q) l.a l.j l.initial.row l.row
