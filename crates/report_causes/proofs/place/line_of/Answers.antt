use borrow.Author.Tests.{lt-ltb, le-ltb}
use Rattle.model_faults.specs.Own.{line_of}
use Rattle.report_causes.proofs.place.line_of.Goals as goal

pub returns-then-p-k : goal.returns-then-p-k
unfolding line_of
returns-then-p-k c = rw (lt-ltb _ _ c.if-p-k.true)

pub returns-else-p-k : goal.returns-else-p-k
unfolding line_of
returns-else-p-k c = rw (le-ltb _ _ c.if-p-k.false)
