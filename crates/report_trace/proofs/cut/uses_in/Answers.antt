use Rattle.model_recipes.specs.declared.Step.{Step}
use mathlib.Core.Path.{ap}
use Rattle.recipes_kinds.specs.Known.{small-kind}
use Rattle.report_trace.proofs.cut.uses_in.Goals as goal

pub uses_of-requires : goal.uses_of-requires
uses_of-requires c = rw (ap (λ (s : Step). s.kind) c.step_of.ensures) (small-kind _)
