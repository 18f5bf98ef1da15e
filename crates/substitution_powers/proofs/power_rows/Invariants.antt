use Prim.Native.Nat.{◌*◌}
use mathlib.Core.Path.{◌≡◌}
use Rattle.lists.specs.Table.{Filled}
use Rattle.substitution_powers.specs.Powers.{power, by_row}
use Rattle.substitution_powers.proofs.power_rows.Given as goal

abbrev pub invariant-loop-r : goal.invariant-loop-r
invariant-loop-r l = (l.factor ≡ power l.m l.r) × Filled (l.r * l.s) (by_row l.m l.s l.initial.to) l.initial.to l.to
