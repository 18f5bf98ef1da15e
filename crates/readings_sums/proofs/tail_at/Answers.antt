use mathlib.Core.Path.{ap, ◌∙◌}
use native.Mathlib.Omega.{arith}
use lib.Ieee.{Float, sub, div, binary64}
use Rattle.model.specs.Readings.{sum_to}
use Rattle.model.specs.Tail.{tail_of}
use Rattle.readings_sums.proofs.tail_at.Goals as goal

pub sum_to-requires : goal.sum_to-requires
sum_to-requires c = omega (arith, c.places_to-many.ensures)

pub returns : goal.returns
unfolding tail_of
returns c =
    let total : Float = c.args.total in
    ap (λ (s : Float). div binary64 (sub binary64 total s) total) (c.sum_to.ensures ∙ ap (sum_to _) c.places_to-many.ensures)
