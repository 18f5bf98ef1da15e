use Rattle.model.specs.Limits.{max_shape}
use Rattle.shape.proofs.limits.max_shape.Goals as goal

pub returns : goal.returns
unfolding max_shape
returns c = simp (c.most-4.ensures, c.most-3.ensures, c.most-2.ensures, c.most.ensures)
