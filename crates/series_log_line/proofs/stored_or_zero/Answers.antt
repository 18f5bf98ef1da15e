use borrow.Author.Tests.{lt-ltb, le-ltb}
use Rattle.series_log_line.proofs.stored_or_zero.Goals as goal

pub returns-then-k-m : goal.returns-then-k-m
returns-then-k-m c = simp (lt-ltb _ _ c.if-k-m.true)

pub returns-else-k-m : goal.returns-else-k-m
returns-else-k-m c = simp (le-ltb _ _ c.if-k-m.false)
