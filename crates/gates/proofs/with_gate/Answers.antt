use Rattle.gates.specs.Given.{good_limits_lem, zero-regular}
use Rattle.gates.specs.Gate.{limits-good}
use Rattle.gates.proofs.with_gate.Goals as goal

pub fits_gate-requires : goal.fits_gate-requires
fits_gate-requires c =
    rw c.zero_with-h.ensures (zero-regular (good_limits_lem _ _ (limits-good _ _ c.in_ok-limits_gate.ensures.none))).rules
