use mathlib.Core.Path.{ap, ◌∙◌}
use Rattle.taylor.specs.Face.{word_of_answer}
use Rattle.taylor.proofs.taylor_var_with_degrees_p1.Goals as goal

pub returns : goal.returns
returns c = (c.word_of.ensures ∙ ap word_of_answer c.var_with_degrees_p1.ensures.0, c.var_with_degrees_p1.ensures.1)
