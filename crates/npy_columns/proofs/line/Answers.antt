use native.Mathlib.Omega.{arith}
use Rattle.npy_columns.specs.Lines.{lined-none, lined-small, lined-fits, lined-more, lined_end}
use Rattle.npy_columns.proofs.line.Goals as goal

pub loop-x-init : goal.loop-x-init
loop-x-init g c = lined-none _ _ _ _ _ _

pub value-requires : goal.value-requires
value-requires g c = lined-fits c.loop-x.invariant c.requires (omega arith)

pub overflow_add-v : goal.overflow_add-v
overflow_add-v g c = omega (arith, lined-small c.loop-x.invariant c.requires (omega arith))

pub loop-x-preserved : goal.loop-x-preserved
loop-x-preserved g c = lined-more c.loop-x.invariant c.value.ensures (omega arith)

pub returns : goal.returns
returns g c = lined_end c.loop-x.invariant (omega arith)
