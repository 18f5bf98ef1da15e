use Prim.Native.Nat.{◌+◌}
use Rattle.lists.specs.Walk.{Walked}
use Rattle.quotient_levels.specs.Level.{passed}
use Rattle.quotient_levels.proofs.through.Given as goal

abbrev pub invariant-loop-j : goal.invariant-loop-j
invariant-loop-j l = Walked passed (l.v + 1) l._j l.c l.x
