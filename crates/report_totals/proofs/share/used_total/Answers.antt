use borrow.Author.Tests.{le-leb, lt-leb}
use Rattle.model_forecast.specs.Shares.{used_total}
use Rattle.report_totals.proofs.share.used_total.Goals as goal

pub returns-in-Some : goal.returns-in-Some
unfolding used_total
returns-in-Some c = rw c.in-Some.is

pub returns-then-s-ge64 : goal.returns-then-s-ge64
unfolding used_total
returns-then-s-ge64 c = rw (c.in-None.is, le-leb _ _ c.if-s-ge64.true)

pub returns-else-s-ge64 : goal.returns-else-s-ge64
unfolding used_total
returns-else-s-ge64 c = rw (c.in-None.is, lt-leb _ _ c.if-s-ge64.false)
