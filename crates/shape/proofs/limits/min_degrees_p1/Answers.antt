use Rattle.model.specs.Limits.{min_degrees_p1}
use Rattle.shape.proofs.limits.min_degrees_p1.Goals as goal

pub returns : goal.returns
unfolding min_degrees_p1
returns c = simp (c.min_limit-4.ensures, c.min_limit-3.ensures, c.min_limit-2.ensures, c.min_limit.ensures)
