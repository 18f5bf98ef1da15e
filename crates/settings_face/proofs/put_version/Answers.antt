use Rattle.settings_face.specs.Face.{version_after}
use Rattle.settings_face.proofs.put_version.Goals as goal

pub returns-in-Ok : goal.returns-in-Ok
unfolding version_after
returns-in-Ok c = rw c.in-Ok.is

pub returns-in_default : goal.returns-in_default
unfolding version_after
returns-in_default c = rw c.in_default.is
