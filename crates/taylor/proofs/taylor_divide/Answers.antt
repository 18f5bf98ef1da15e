use mathlib.Core.Path.{ap, ◌∙◌}
use Rattle.taylor.specs.Face.{word_of_answer}
use Rattle.taylor.proofs.taylor_divide.Goals as goal

pub returns : goal.returns
returns c = (c.word_of.ensures ∙ ap word_of_answer c.divide.ensures.0, c.divide.ensures.1)
