use Prim.Native.Nat.{◌-◌}
use Rattle.model.specs.Header.{stored}
use Rattle.model.specs.Poly.{block_of}
use Rattle.substitution.specs.Room.{turns}
use Rattle.substitution.specs.Horner.{value_in, put_in}
use Rattle.shape_operands.specs.Operand.{taken}
use Rattle.substitution.specs.Placed.{RunsTo}
use Rattle.substitution.proofs.kernel.rows_to.Given as goal

abbrev pub invariant-loop-left : goal.invariant-loop-left
invariant-loop-left l = RunsTo l.p.head.lengths l.v (taken l.p l.a l.initial.out).coeffs l.left l.value l.b l.c l.limits l.n (stored l.p.head)
    (turns l.limits l.v (block_of (taken l.p l.a l.initial.out)) l.k (put_in l.b l.initial.work) (value_in l.n l.initial.value
    l.initial.work)) l.at l.initial.out l.out l.work
