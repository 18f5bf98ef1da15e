use Prim.Native.Nat.{◌*◌}
use Rattle.lists.specs.Table.{Filled}
use Rattle.product_general.specs.Plane.{plane_at}
use Rattle.product_general.proofs.plane.plane.Given as goal

abbrev pub invariant-loop-k : goal.invariant-loop-k
invariant-loop-k l = Filled (l.k * l.s) (plane_at l.xs l.mx l.tx l.nx l.ys l.my l.ty l.ny l.s l.initial.res) l.initial.res l.res
