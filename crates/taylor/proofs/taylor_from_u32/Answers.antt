use mathlib.Core.Path.{ap, ◌∙◌}
use Rattle.taylor.specs.Face.{word_of_answer}
use Rattle.taylor.proofs.taylor_from_u32.Goals as goal

pub returns : goal.returns
returns c = (c.word_of.ensures ∙ ap word_of_answer c.from_u32.ensures.0, c.from_u32.ensures.1)
