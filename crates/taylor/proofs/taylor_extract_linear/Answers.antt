use mathlib.Core.Path.{ap, ◌∙◌}
use Rattle.taylor.specs.Face.{word_of_linear, constant_after, factor_after}
use Rattle.taylor.specs.Apart.{extract-small}
use Rattle.taylor.proofs.taylor_extract_linear.Goals as goal

pub put_linear-requires : goal.put_linear-requires
put_linear-requires c = rw c.extract_linear.ensures (extract-small _ _)

pub returns : goal.returns
returns c = (
  c.put_linear.ensures.answer ∙ ap word_of_linear c.extract_linear.ensures,
  (
    c.put_linear.ensures.constant ∙ ap (λ x. constant_after x c.args.c.now) c.extract_linear.ensures,
    c.put_linear.ensures.factor
        ∙ ap (λ x. factor_after x c.args.m.now) c.extract_linear.ensures,
  ),
)
