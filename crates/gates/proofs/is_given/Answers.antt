use Rattle.gates.proofs.is_given.Goals as goal

pub returns : goal.returns
returns c = simp c.good_limit.ensures
