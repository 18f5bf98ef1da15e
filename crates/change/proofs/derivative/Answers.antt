use Rattle.model.specs.Shifts.{derivative_answer, derivative_out}
use Rattle.change.proofs.derivative.Goals as goal

pub returns : goal.returns
unfolding derivative_answer derivative_out
returns c = (c.scaled.ensures.answer, c.scaled.ensures.written)
