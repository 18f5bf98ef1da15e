use Rattle.settings_text.specs.Tests.{whole, whole-counts}
use Rattle.settings_text.proofs.whole.store.Goals as goal

pub returns : goal.returns
returns c = let p = whole c.put_store.ensures in record { printed = p; within = whole-counts p }
