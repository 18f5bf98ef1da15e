use Rattle.lists.specs.Bytes.{bytes}
use borrow.Author.Tests.{eq-eqb, ne_eqb, lt-ltb, le-ltb}
use Rattle.model_faults.specs.Broken.{asked_text}
use Rattle.report_broken.proofs.line.put_asked.Goals as goal

pub returns-then-k-eq0 : goal.returns-then-k-eq0
unfolding asked_text bytes
returns-then-k-eq0 c = rw (eq-eqb _ _ c.if-k-eq0.true) c.put.ensures

pub returns-then-k-h : goal.returns-then-k-h
unfolding asked_text bytes
returns-then-k-h c =
    rw (
      ne_eqb _ _ c.if-k-eq0.false,
      lt-ltb _ _
          c.if-k-h.true,
    ) c.say.ensures

pub returns : goal.returns
unfolding asked_text bytes
returns c =
    rw (
      ne_eqb _ _ c.if-k-eq0.false,
      le-ltb _ _
          c.if-k-h.false,
    ) c.say-2.ensures
