use Rattle.gates.proofs.is_fitting.Goals as goal

pub returns : goal.returns
returns c = simp c.stored_of-n.ensures
