use native.Mathlib.Omega.{arith}
use lib.Seq.{take-length}
use Rattle.quotient.proofs.kernel.divide_constant.Goals as goal

pub copy-requires : goal.copy-requires
copy-requires c = omega (arith, c.requires)

pub returns-then-c : goal.returns-then-c
returns-then-c c =
    rw (c.if-c.true, c.copy.ensures, c.requires) (take-length c.args.a.now)

pub divide_by-requires : goal.divide_by-requires
divide_by-requires c = c.requires

pub returns : goal.returns
returns c = rw c.if-c.false c.divide_by.ensures
