use Rattle.decimals.specs.Rounded.{one_shl, one_shl-pos, part_by}
use native.Mathlib.Omega.{arith}
use Rattle.decimals.proofs.part.part_of.Goals as goal

pub nonzero_div-halves : goal.nonzero_div-halves
nonzero_div-halves c = one_shl-pos c.args.j (omega arith)

pub nonzero_rem-rest : goal.nonzero_rem-rest
nonzero_rem-rest c = one_shl-pos c.args.j (omega arith)

pub returns : goal.returns
returns c = part_by c.args.f c.args.j _ _ (one_shl c.args.j (omega arith)) c.rounded.ensures
