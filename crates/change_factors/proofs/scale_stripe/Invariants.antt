use Rattle.change_factors.specs.Scale.{stripe_at, StripeLoop}
use Prim.Native.Nat.{◌-◌}
use lib.ListN.{length}
use Rattle.change_factors.proofs.scale_stripe.Given as goal

abbrev pub invariant-loop-at : goal.invariant-loop-at
invariant-loop-at l = StripeLoop l.first l.s l.step l.width l.skip (stripe_at l.plain l.factor l.width l.step l.skip l.a) l.initial.to l.to l.from l.at

abbrev pub decreases-loop-at : goal.decreases-loop-at
decreases-loop-at l = length l.initial.to - l.at
