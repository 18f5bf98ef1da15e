use mathlib.Core.Path.{◌≡◌}
use lib.ListN.{length}
use Rattle.power.specs.Kept.{Turning}
use Rattle.power.proofs.kernel.squarings.Given as goal

abbrev pub invariant-loop-left : goal.invariant-loop-left
invariant-loop-left l = Turning l.initial.lb l.limits l.e l.n l.initial.work l.work l.lr l.lb l.left × (length l.out ≡ length l.initial.out)

abbrev pub decreases-loop-left : goal.decreases-loop-left
decreases-loop-left l = l.left
