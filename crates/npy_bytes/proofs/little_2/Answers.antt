use native.Mathlib.Omega.{arith}
use Rattle.npy_bytes.specs.Words.{little-two}
use Rattle.npy_bytes.proofs.little_2.Goals as goal

pub returns : goal.returns
returns c =
    (little-two c.args.file.now c.args.at c.wide.ensures.0 c.wide-2.ensures.0, omega arith)
