use Rattle.model_decimals.specs.Text.{float_text}
use Rattle.decimals.proofs.put_float.Goals as goal

pub returns : goal.returns
unfolding float_text
returns c = rw c.word_of.ensures at c.put_float_of.ensures
