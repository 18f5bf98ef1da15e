use native.Mathlib.Omega.{arith}
use mathlib.Core.Path.{refl}
use Rattle.npy_bytes.specs.Words.{little-eight}
use Rattle.npy_bytes.proofs.little_8.Goals as goal

pub returns : goal.returns
returns c =
    omega (
      arith,
      little-eight c.args.file.now c.args.at c.wide.ensures.0 refl refl refl refl refl refl refl,
      c.joined-b.ensures.0,
      c.joined-c.ensures.0,
      c.joined-d.ensures.0,
      c.joined-e.ensures.0,
      c.joined-f.ensures.0,
      c.joined-g.ensures.0,
      c.joined.ensures.0,
    )
