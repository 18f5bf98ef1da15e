use Rattle.lists.specs.Bytes.{bytes}
use borrow.Author.Tests.{le-leb, lt-leb}
use Rattle.report_lines.specs.Puts.{puts_none}
use Rattle.model_faults.specs.Own.{totals_fault}
use Rattle.report_causes.proofs.own.put_totals.Goals as goal

pub returns-then-c-gt2048 : goal.returns-then-c-gt2048
unfolding totals_fault bytes
returns-then-c-gt2048 c = rw (lt-leb _ _ c.if-c-gt2048.true) c.say.ensures

pub returns-then-d-gt2048 : goal.returns-then-d-gt2048
unfolding totals_fault bytes
returns-then-d-gt2048 c =
    rw (
      le-leb _ _ c.if-c-gt2048.false,
      lt-leb _ _
          c.if-d-gt2048.true,
    ) c.say-then-d-gt2048.ensures

pub returns : goal.returns
unfolding totals_fault bytes
returns c = rw (le-leb _ _ c.if-c-gt2048.false, le-leb _ _ c.if-d-gt2048.false) (puts_none _ _)
