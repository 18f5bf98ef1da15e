use Rattle.lists.specs.Bytes.{bytes}
use borrow.Author.Tests.{eq-eqb, ne_eqb}
use Rattle.model_texts.specs.Report.{need_text}
use Rattle.report_lines.proofs.cuts.put_need.Goals as goal

pub returns-then-full-eq0 : goal.returns-then-full-eq0
unfolding need_text bytes
returns-then-full-eq0 c = rw (eq-eqb _ _ c.if-full-eq0.true) c.put.ensures

pub returns-then-full-eq-MANY : goal.returns-then-full-eq-MANY
unfolding need_text bytes
returns-then-full-eq-MANY c =
    rw (
      ne_eqb _ _ c.if-full-eq0.false,
      eq-eqb _ _ c.if-full-eq-MANY.true,
    ) c.put-then-full-eq-MANY.ensures

pub returns : goal.returns
unfolding need_text bytes
returns c =
    rw (
      ne_eqb _ _ c.if-full-eq0.false,
      ne_eqb _ _ c.if-full-eq-MANY.false,
    ) c.tell.ensures
