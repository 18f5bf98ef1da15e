use Rattle.shape.proofs.announce.paired_length.Goals as goal

pub returns : goal.returns
returns c = cc
