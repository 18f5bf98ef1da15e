use Rattle.settings_face.proofs.content_of.Goals as goal

pub returns : goal.returns
returns c = rw (← c.word_of.ensures)
