use native.Mathlib.Omega.{arith}
use Prim.Native.Nat.{◌-◌}
use lib.ListN.{length-take, length-drop}
use Rattle.shape_operands.specs.Lent.{pad-kept}
use Rattle.shape_operands.proofs.pad.Goals as goal

pub returns : goal.returns
returns c =
    pad-kept c.args.from c.args.to c.args.pool.now c.clear.ensures
    (simp (length-take, length-drop) (omega (arith, c.requires))) c.requires.0 c.requires.1
