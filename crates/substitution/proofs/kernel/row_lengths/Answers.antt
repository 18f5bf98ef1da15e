use Rattle.substitution.proofs.kernel.row_lengths.Goals as goal

pub returns : goal.returns
returns c = rw c.cut_to-r.ensures
