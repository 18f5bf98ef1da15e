use Rattle.gates.proofs.Opened.telling.Goals as goal

pub returns : goal.returns
returns c = simp (c.stored_of.ensures, c.stored_of-2.ensures, c.stored_of-3.ensures)
