use borrow.Author.Tests.{not-true, not-false}
use mathlib.Core.Path.{ap}
use Rattle.model_recipes.specs.declared.Step.{Step}
use Rattle.recipes_kinds.specs.Known.{small-kind}
use Rattle.mending.specs.Words.{used_is, step-ready, step-refused, step_used}
use Rattle.mending.proofs.words.mended_step.Goals as goal

pub uses_of-u-requires : goal.uses_of-u-requires
uses_of-u-requires c = rw (ap (λ (s : Step). s.kind) c.step_of-s.ensures) (small-kind _)

pub returns-then-not-u : goal.returns-then-not-u
returns-then-not-u c =
    step-refused _ c.step_of-s.ensures c.uses_of-u.ensures (not-true _ c.if-not-u.true)

pub pack-requires : goal.pack-requires
pack-requires c =
    step-ready _ c.step_of-s.ensures c.uses_of-u.ensures (used_is c.uses_of-u.result.a _ _ c.if_used.ensures)
    (used_is c.uses_of-u.result.b _ _ c.if_used-2.ensures)
    (used_is c.uses_of-u.result.variable _ _ c.if_used-3.ensures)
    (used_is c.uses_of-u.result.n _ _ c.if_used-4.ensures)

pub returns : goal.returns
returns c =
    step_used _ c.step_of-s.ensures c.uses_of-u.ensures (used_is c.uses_of-u.result.a _ _ c.if_used.ensures)
    (used_is c.uses_of-u.result.b _ _ c.if_used-2.ensures)
    (used_is c.uses_of-u.result.variable _ _ c.if_used-3.ensures)
    (used_is c.uses_of-u.result.n _ _ c.if_used-4.ensures) (not-false _ c.if-not-u.false)
    c.pack.ensures
