use mathlib.Core.Path.{ap}
use Rattle.model_recipes.specs.declared.Step.{Step}
use Rattle.recipes_kinds.specs.Known.{small-kind}
use Rattle.recipes_placing.specs.Reading.{reads-is}
use Rattle.recipes_placing.proofs.is_read.Goals as goal

pub uses_of-u-requires : goal.uses_of-u-requires
uses_of-u-requires c = rw (ap (λ (s : Step). s.kind) c.step_of-s.ensures) (small-kind _)

pub returns : goal.returns
returns c = reads-is _ _ c.step_of-s.ensures c.uses_of-u.ensures
