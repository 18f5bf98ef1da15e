use borrow.Author.Tests.{le-leb, lt-leb}
use Rattle.model_settings.specs.Store.{kept}
use Rattle.settings_store.proofs.test.is_kept.Goals as goal

pub returns-then-u-v : goal.returns-then-u-v
unfolding kept
returns-then-u-v c = simp (le-leb _ _ c.if-u-v.true)

pub returns-else-u-v : goal.returns-else-u-v
unfolding kept
returns-else-u-v c = simp (lt-leb _ _ c.if-u-v.false)
