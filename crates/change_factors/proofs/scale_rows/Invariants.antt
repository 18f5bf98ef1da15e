use Rattle.change_factors.specs.Scale.{next_f, scaled_flat, Rowed}
use Rattle.lists.specs.Walk.{Walked}
use mathlib.Core.Path.{◌≡◌}
use Prim.Native.Nat.{◌-◌, ◌*◌, ◌<◌}
use lib.ListN.{length}
use Rattle.change_factors.proofs.scale_rows.Given as goal

abbrev pub invariant-loop-at : goal.invariant-loop-at
invariant-loop-at l = ((l.at ≡ l.k * l.s) × (0 < l.k)) × ((l.skip ≡ l.n * l.s)
    × (Walked (next_f l.n) 1 l.k l.start l.factor × Rowed l.step l.at (scaled_flat l.plain l.start l.n l.s l.width l.step l.a) (length l.initial.to) l.to))

abbrev pub decreases-loop-at : goal.decreases-loop-at
decreases-loop-at l = l.step - l.at
