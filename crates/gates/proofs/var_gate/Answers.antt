use Rattle.gates.specs.Given.{good_limit_lem, given-same, var-regular}
use Rattle.gates.proofs.var_gate.Goals as goal

pub fits_gate-requires : goal.fits_gate-requires
fits_gate-requires c =
    rw c.var-h.ensures
    (var-regular (given-same c.if-v-gt3.false (good_limit_lem _ (rw c.good_limit.ensures at c.if-not-good_limit.false))) _).rules
