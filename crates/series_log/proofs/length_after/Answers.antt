use borrow.Author.Tests.{lt-ltb, le-ltb}
use Rattle.series_log.proofs.length_after.Goals as goal

pub returns-then-v-w : goal.returns-then-v-w
returns-then-v-w c = simp (lt-ltb _ _ c.if-v-w.true)

pub returns-else-v-w : goal.returns-else-v-w
returns-else-v-w c = simp (le-ltb _ _ c.if-v-w.false)
