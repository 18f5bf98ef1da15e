use Rattle.model.specs.Header.{zero_with}
use Rattle.readings.proofs.from_u32.Goals as goal

pub returns : goal.returns
unfolding zero_with
returns c = (c.constant_with.ensures.answer, c.constant_with.ensures.written)
