use Prim.Native.Nat.{◌-◌, ◌≤◌}
use Rattle.product_lines.specs.Fours.{Walking}
use Rattle.product_lines.proofs.four_on.Given as goal

abbrev pub invariant-loop-j : goal.invariant-loop-j
invariant-loop-j l = (l.j ≤ l.b) × Walking l.xs l.ys l.k l.a l.j l.initial.s0 l.initial.s1 l.initial.s2 l.initial.s3 l.s0 l.s1 l.s2 l.s3

abbrev pub decreases-loop-j : goal.decreases-loop-j
decreases-loop-j l = l.b - l.j
