use Rattle.settings_face.specs.Face.{chance_after}
use Rattle.settings_face.proofs.put_chance.Goals as goal

pub returns-in-Ok : goal.returns-in-Ok
unfolding chance_after
returns-in-Ok c = rw c.in-Ok.is c.float_of.ensures

pub returns-in_default : goal.returns-in_default
unfolding chance_after
returns-in_default c = rw c.in_default.is
