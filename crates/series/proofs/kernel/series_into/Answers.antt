use borrow.Author.Rules.{rules}
use Rattle.series.proofs.kernel.series_into.Goals as goal

pub returns-then-logs : goal.returns-then-logs
returns-then-logs c = record { out_after = rw c.if-logs.true c.log_into.ensures.out_after; spent = search rules }

pub returns : goal.returns
returns c = record { out_after = rw c.if-logs.false c.exp_into.ensures.out_after; spent = search rules }
