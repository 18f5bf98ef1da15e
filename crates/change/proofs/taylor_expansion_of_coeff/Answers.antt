use Rattle.model.specs.Shifts.{expansion_answer, expansion_out}
use Rattle.change.proofs.taylor_expansion_of_coeff.Goals as goal

pub returns : goal.returns
unfolding expansion_answer expansion_out
returns c = (c.scaled.ensures.answer, c.scaled.ensures.written)
