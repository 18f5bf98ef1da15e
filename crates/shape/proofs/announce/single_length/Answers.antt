use Rattle.shape.proofs.announce.single_length.Goals as goal

pub returns : goal.returns
returns c = cc
