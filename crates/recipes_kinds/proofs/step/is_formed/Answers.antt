use mathlib.Core.Path.{ap}
use Rattle.model_recipes.specs.declared.Step.{Step}
use Rattle.recipes_kinds.specs.Known.{small-kind}
use Rattle.recipes_kinds.specs.Gated.{formed-is}
use Rattle.recipes_kinds.proofs.step.is_formed.Goals as goal

pub uses_of-u-requires : goal.uses_of-u-requires
uses_of-u-requires c = rw (ap (λ (s : Step). s.kind) c.step_of-s.ensures) (small-kind _)

pub returns : goal.returns
returns c =
    formed-is _ _ c.step_of-s.ensures
    c.uses_of-u.ensures
    c.is_named.ensures c.is_named-2.ensures
    c.is_zero_unless.ensures c.is_zero_unless-2.ensures
