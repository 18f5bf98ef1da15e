use Rattle.lists.specs.Bytes.{bytes}
use borrow.Author.Tests.{eq-eqb, ne_eqb}
use Rattle.model_faults.specs.StepWord.{late_text}
use Rattle.report_causes.proofs.step.put_late.Goals as goal

pub returns-then-p-eq0 : goal.returns-then-p-eq0
unfolding late_text bytes
returns-then-p-eq0 c = rw (eq-eqb _ _ c.if-p-eq0.true) c.say.ensures

pub returns-then-x-p : goal.returns-then-x-p
unfolding late_text bytes
returns-then-x-p c =
    rw (
      ne_eqb _ _ c.if-p-eq0.false,
      eq-eqb _ _
          c.if-x-p.true,
    ) c.say-then-x-p.ensures

pub returns : goal.returns
unfolding late_text bytes
returns c =
    rw (
      ne_eqb _ _ c.if-p-eq0.false,
      ne_eqb _ _
          c.if-x-p.false,
    ) c.say-2.ensures
