use Prim.Native.Nat.{◌*◌}
use Rattle.lists.specs.Table.{Filled}
use Rattle.substitution_powers.specs.Powers.{by_part}
use Rattle.substitution_powers.proofs.power_parts.Given as goal

abbrev pub invariant-loop-r : goal.invariant-loop-r
invariant-loop-r l = Filled (l.r * l.width) (by_part l.m l.s l.width l.initial.to) l.initial.to l.to
