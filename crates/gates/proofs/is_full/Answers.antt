use Rattle.gates.proofs.is_full.Goals as goal

pub returns : goal.returns
returns c = simp c.stored_of.ensures
