use Rattle.gates.specs.Given.{good_limits_lem, var-regular}
use Rattle.gates.specs.Gate.{limits-good}
use Rattle.gates.proofs.var_with_gate.Goals as goal

pub fits_gate-requires : goal.fits_gate-requires
fits_gate-requires c =
    rw c.var_with_degrees_p1-h.ensures (var-regular (good_limits_lem _ _ (limits-good _ _ c.in_ok-limits_gate.ensures.none)) _).rules
