use Rattle.settings_face.specs.Face.{numbered}
use Rattle.settings_face.proofs.numbered.Goals as goal

pub returns-in-Ok : goal.returns-in-Ok
unfolding numbered
returns-in-Ok c = rw c.in-Ok.is

pub returns-in-Err : goal.returns-in-Err
unfolding numbered
returns-in-Err c = rw (c.in-Err.is, c.number.ensures)
