use Rattle.shape_words.proofs.word.bad_word.Goals as goal

pub returns : goal.returns
returns c = rw (← c.fault_of.ensures) c.of_fault.ensures
