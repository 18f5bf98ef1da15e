use borrow.Author.Tests.{le-leb, lt-leb}
use Rattle.model_forecast.specs.Shares.{totals_text}
use Rattle.report_totals.proofs.share.put_totals.Goals as goal

pub returns-then-s-ge64 : goal.returns-then-s-ge64
unfolding totals_text
returns-then-s-ge64 c =
    rw (c.in-None.is, le-leb _ _ c.if-s-ge64.true) c.put_total-then-s-ge64.ensures

pub returns-in-Some : goal.returns-in-Some
unfolding totals_text
returns-in-Some c = rw c.in-Some.is c.put_total.ensures

pub returns-else-s-ge64 : goal.returns-else-s-ge64
unfolding totals_text
returns-else-s-ge64 c =
    rw (c.in-None.is, lt-leb _ _ c.if-s-ge64.false) c.put_bar.ensures
