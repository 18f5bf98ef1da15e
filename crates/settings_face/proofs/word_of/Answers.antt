use Rattle.settings_face.specs.Face.{word_of}
use Rattle.settings_face.proofs.word_of.Goals as goal

pub returns-in-Ok : goal.returns-in-Ok
unfolding word_of
returns-in-Ok c = rw c.in-Ok.is

pub returns-in-Err : goal.returns-in-Err
unfolding word_of
returns-in-Err c = rw c.in-Err.is
