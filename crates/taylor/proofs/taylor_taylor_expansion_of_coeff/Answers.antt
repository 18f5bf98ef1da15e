use mathlib.Core.Path.{ap, ◌∙◌}
use Rattle.taylor.specs.Face.{word_of_answer}
use Rattle.taylor.proofs.taylor_taylor_expansion_of_coeff.Goals as goal

pub returns : goal.returns
returns c = (c.word_of.ensures ∙ ap word_of_answer c.taylor_expansion_of_coeff.ensures.0, c.taylor_expansion_of_coeff.ensures.1)
