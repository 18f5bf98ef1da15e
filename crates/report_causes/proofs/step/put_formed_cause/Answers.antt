use borrow.Author.Tests.{not-true, not-false}
use Rattle.lists.specs.Bytes.{bytes}
use Rattle.report_lines.specs.Puts.{puts_then}
use Rattle.model_recipes.specs.declared.Step.{Step}
use mathlib.Core.Path.{sym, ap, ◌∙◌}
use Rattle.recipes_kinds.specs.Known.{small-kind}
use Rattle.report_causes.specs.Formed.{formed-kind, formed-a, formed-b, formed-rest}
use Rattle.report_causes.proofs.step.put_formed_cause.Goals as goal

pub uses_of-u-requires : goal.uses_of-u-requires
uses_of-u-requires c = rw (ap (λ (s : Step). s.kind) c.step_of-s.ensures) (small-kind _)

pub returns-then-not-u : goal.returns-then-not-u
unfolding bytes
returns-then-not-u c =
    rw (← formed-kind c.args.word c.step_of-s.ensures
    c.uses_of-u.ensures c.args.p (not-true _ c.if-not-u.true)) c.say.ensures

pub returns-then-not-is_named : goal.returns-then-not-is_named
unfolding bytes
returns-then-not-is_named c =
    rw (← formed-a c.args.word
    c.step_of-s.ensures
    c.uses_of-u.ensures
    c.args.p (not-false _ c.if-not-u.false)
    (sym c.is_named.ensures ∙ c.if-not-is_named.true)) (puts_then
    c.put-next.ensures c.put_operand.ensures)

pub returns-then-not-is_named-2 : goal.returns-then-not-is_named-2
unfolding bytes
returns-then-not-is_named-2 c =
    rw (← formed-b c.args.word
    c.step_of-s.ensures
    c.uses_of-u.ensures
    c.args.p (not-false _ c.if-not-u.false) (sym
    c.is_named.ensures ∙ c.if-not-is_named.false) (sym
    c.is_named-2.ensures ∙ c.if-not-is_named-2.true)) (puts_then
    c.put-next-then-not-is_named-2.ensures c.put_operand-then-not-is_named-2.ensures)

pub returns : goal.returns
returns c =
    rw (← formed-rest c.args.word
    c.step_of-s.ensures
    c.uses_of-u.ensures c.args.p (not-false _ c.if-not-u.false) (sym
    c.is_named.ensures ∙ c.if-not-is_named.false) (sym c.is_named-2.ensures
    ∙ c.if-not-is_named-2.false)) c.put_fields_cause.ensures
