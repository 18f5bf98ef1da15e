use mathlib.Core.Path.{ap, ◌∙◌}
use Rattle.taylor.specs.Face.{word_of_count, count_after}
use Rattle.taylor.proofs.taylor_least.Goals as goal

pub returns : goal.returns
returns c = (
  c.put_count.ensures.answer ∙ ap word_of_count c.least.ensures,
  c.put_count.ensures.count
      ∙ ap (λ x. count_after x c.args.k.now) c.least.ensures,
)
