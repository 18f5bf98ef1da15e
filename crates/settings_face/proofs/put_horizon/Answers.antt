use Rattle.settings_face.specs.Face.{horizon_after}
use Rattle.settings_face.proofs.put_horizon.Goals as goal

pub returns-in-Ok : goal.returns-in-Ok
unfolding horizon_after
returns-in-Ok c = rw c.in-Ok.is

pub returns-in_default : goal.returns-in_default
unfolding horizon_after
returns-in_default c = rw c.in_default.is
