use Rattle.model.specs.Limits.{sum_shape}
use Rattle.shape.proofs.limits.sum_shape.Goals as goal

pub returns : goal.returns
unfolding sum_shape
returns c = simp (c.least-4.ensures, c.least-3.ensures, c.least-2.ensures, c.least.ensures)
