use mathlib.Core.Path.{ap, ◌∙◌}
use Rattle.taylor.specs.Face.{word_of_check, pool_after, largest_after, inputs_after}
use Rattle.taylor.proofs.taylor_check.Goals as goal

pub returns : goal.returns
returns c = (
  c.put_totals.ensures.answer ∙ ap word_of_check c.check.ensures,
  (
    c.put_totals.ensures.pool ∙ ap (λ x. pool_after x c.args.pool.now) c.check.ensures,
    (
      c.put_totals.ensures.largest ∙ ap (λ x. largest_after x c.args.largest.now) c.check.ensures,
      c.put_totals.ensures.inputs ∙ ap (λ x.
          inputs_after x c.args.inputs.now) c.check.ensures,
    ),
  ),
)
