use Rattle.lists.specs.Bytes.{bytes}
use borrow.Author.Tests.{eq-eqb, ne_eqb, lt-ltb, le-ltb}
use Rattle.model_faults.specs.Broken.{ended_text}
use Rattle.report_broken.proofs.line.put_ended.Goals as goal

pub returns-then-k-eq0 : goal.returns-then-k-eq0
unfolding ended_text bytes
returns-then-k-eq0 c =
    rw (
      eq-eqb _ _ c.if-c-eq0.true,
      eq-eqb _ _
          c.if-k-eq0.true,
    ) c.put.ensures

pub returns-then-c-eq0 : goal.returns-then-c-eq0
unfolding ended_text bytes
returns-then-c-eq0 c =
    rw (
      eq-eqb _ _ c.if-c-eq0.true,
      ne_eqb _ _
          c.if-k-eq0.false,
    ) c.put-then-c-eq0.ensures

pub returns-then-c-lt16 : goal.returns-then-c-lt16
unfolding ended_text bytes
returns-then-c-lt16 c =
    rw (
      ne_eqb _ _ c.if-c-eq0.false,
      lt-ltb _ _
          c.if-c-lt16.true,
    ) c.say.ensures

pub returns : goal.returns
unfolding ended_text bytes
returns c =
    rw (
      ne_eqb _ _ c.if-c-eq0.false,
      le-ltb _ _
          c.if-c-lt16.false,
    ) c.put-2.ensures
