use native.Mathlib.Omega.{arith}
use mathlib.Core.Path.{◌≡◌}
use Prim.Native.Nat.{◌+◌, ◌-◌}
use lib.ListN.{length, take, drop, length-take, length-drop}
use Rattle.lists.specs.Part.{kept-mid}
use Rattle.product.proofs.kernel.keep.Goals as goal

pub returns : goal.returns
returns c =
    let e : c.args.at + c.args.n - c.args.at ≡ c.args.n = omega arith in
    kept-mid c.args.at c.args.n c.args.work.now c.args.from.now
    (length (take (c.args.at + c.args.n - c.args.at)
    (drop c.args.at c.args.work.now))) c.copy.ensures
    (simp (length-take, length-drop) (omega (arith, c.requires))) c.requires.0 c.requires.1 e
