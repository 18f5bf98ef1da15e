use native.Mathlib.Omega.{arith}
use mathlib.Core.Path.{refl}
use Rattle.npy_bytes.specs.Words.{little-four}
use Rattle.npy_bytes.proofs.little_4.Goals as goal

pub returns : goal.returns
returns c = (
  omega (
    arith,
    little-four c.args.file.now c.args.at c.wide.ensures.0 refl refl refl,
    c.joined-b.ensures.0,
    c.joined-c.ensures.0,
    c.joined.ensures.0,
  ),
  c.joined.ensures.1,
)
