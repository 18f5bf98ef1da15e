use Rattle.model.specs.Limits.{cut_to}
use Rattle.shape.proofs.limits.cut_to.Goals as goal

pub returns : goal.returns
unfolding cut_to
returns c = simp (c.least-4.ensures, c.least-3.ensures, c.least-2.ensures, c.least.ensures)
