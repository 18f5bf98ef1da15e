use Rattle.sheet_solving.proofs.Solved.done.Goals as goal

pub stored_of-requires : goal.stored_of-requires
stored_of-requires c = rw c.header_of.ensures c.requires

pub returns : goal.returns
returns c = rw (c.stored_of.ensures, c.header_of.ensures)
