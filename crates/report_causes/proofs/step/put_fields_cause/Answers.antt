use Rattle.lists.specs.Bytes.{bytes}
use Rattle.report_lines.specs.Puts.{puts_none, puts_then}
use Rattle.model_recipes.specs.declared.Step.{Step}
use mathlib.Core.Path.{ap}
use lib.Bits.{and_mask}
use Rattle.recipes_kinds.specs.Known.{small-kind}
use Rattle.report_causes.specs.Formed.{fields-variable, fields-n, fields-spare, fields-none}
use Rattle.report_causes.proofs.step.put_fields_cause.Goals as goal

pub uses_of-u-requires : goal.uses_of-u-requires
uses_of-u-requires c = rw (ap (λ (s : Step). s.kind) c.step_of-s.ensures) (small-kind _)

pub returns-then-not-u-s : goal.returns-then-not-u-s
unfolding bytes
returns-then-not-u-s c =
    rw (← fields-variable
    c.args.word
    c.step_of-s.ensures
    c.uses_of-u.ensures c.if-not-u-s.true) (puts_then
    c.put-next.ensures c.put_unused.ensures)

pub returns-then-not-u-n : goal.returns-then-not-u-n
unfolding bytes
returns-then-not-u-n c =
    rw (← fields-n c.args.word
    c.step_of-s.ensures
    c.uses_of-u.ensures
    c.if-not-u-s.false
    c.if-not-u-n.true) (puts_then
    c.put-next-then-not-u-n.ensures c.put_unused-then-not-u-n.ensures)

pub returns-then-spare-ne0 : goal.returns-then-spare-ne0
unfolding bytes
returns-then-spare-ne0 c =
    rw (← fields-spare c.args.word
    c.step_of-s.ensures
    c.uses_of-u.ensures
    c.if-not-u-s.false c.if-not-u-n.false (and_mask c.args.word 14)
    c.if-spare-ne0.true) c.say.ensures

pub returns : goal.returns
returns c =
    rw (← fields-none c.args.word c.step_of-s.ensures
    c.uses_of-u.ensures c.if-not-u-s.false c.if-not-u-n.false (and_mask c.args.word 14) c.if-spare-ne0.false)
    (puts_none _ _)
