use borrow.Author.Tests.{lt-ltb, le-ltb}
use Rattle.model.specs.Limits.{min_limit}
use Rattle.shape.proofs.limits.min_limit.Goals as goal

pub returns-then-v-k : goal.returns-then-v-k
unfolding min_limit
returns-then-v-k c = simp (le-ltb _ _ c.if-v-k.true)

pub returns-then-w-k : goal.returns-then-w-k
unfolding min_limit
returns-then-w-k c = simp (lt-ltb _ _ c.if-v-k.false, le-ltb _ _ c.if-w-k.true)

pub returns : goal.returns
unfolding min_limit
returns c = simp (lt-ltb _ _ c.if-v-k.false, lt-ltb _ _ c.if-w-k.false) c.least.ensures
