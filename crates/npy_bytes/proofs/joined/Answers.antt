use native.Mathlib.Omega.{arith}
use Rattle.npy_bytes.specs.Words.{joined_is}
use Rattle.npy_bytes.proofs.joined.Goals as goal

pub returns : goal.returns
returns c =
    rw c.wide.ensures.0 (joined_is c.args.low c.args.b c.args.k c.requires.0 (omega (arith, c.wide.ensures)) c.requires.1)
