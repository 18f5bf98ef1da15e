use mathlib.Core.Path.{ap, ◌∙◌}
use Rattle.taylor.specs.Face.{word_of_answer}
use Rattle.taylor.proofs.taylor_coefficients_of_term.Goals as goal

pub returns : goal.returns
returns c = (c.word_of.ensures ∙ ap word_of_answer c.coefficients_of_term.ensures.0, c.coefficients_of_term.ensures.1)
