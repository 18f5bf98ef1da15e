use Rattle.lists.specs.Bytes.{bytes}
use Rattle.report_lines.specs.Puts.{puts_then}
use borrow.Author.Tests.{le-leb, lt-leb}
use Rattle.model_texts.specs.Report.{verdict_text}
use Rattle.model_texts.specs.Whole.{is_whole}
use Rattle.report_lines.proofs.ends.put_verdict.Goals as goal

pub returns-then-first-ge64 : goal.returns-then-first-ge64
unfolding verdict_text is_whole bytes
returns-then-first-ge64 c =
    rw (
      ← c.first_out-first.ensures,
      le-leb _ _ c.if-first-ge64.true,
    ) c.put.ensures

pub returns : goal.returns
unfolding verdict_text is_whole bytes
returns c =
    rw (← c.first_out-first.ensures, lt-leb _ _ c.if-first-ge64.false)
    (puts_then c.tell-next.ensures
    c.put-2.ensures)
