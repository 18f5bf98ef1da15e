use mathlib.Core.Path.{ap, ◌∙◌}
use Rattle.taylor.specs.Face.{word_of_run}
use Rattle.taylor.proofs.taylor_run.Goals as goal

pub returns : goal.returns
returns c = (c.word_of_run.ensures ∙ ap word_of_run c.run.ensures.0, c.run.ensures.1)
