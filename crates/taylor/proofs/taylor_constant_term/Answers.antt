use mathlib.Core.Path.{ap, ◌∙◌}
use Rattle.taylor.specs.Face.{word_of_reading, value_after}
use Rattle.taylor.proofs.taylor_constant_term.Goals as goal

pub returns : goal.returns
returns c = (
  c.put.ensures.answer ∙ ap word_of_reading c.constant_term.ensures,
  c.put.ensures.value
      ∙ ap (λ x. value_after x c.args.value.now) c.constant_term.ensures,
)
