use Rattle.settings.specs.Given.{store_loaded, no_store}
use Rattle.settings.proofs.file.load.Goals as goal

pub returns-then-take_store : goal.returns-then-take_store
returns-then-take_store g c = store_loaded _ _ c.take_store.ensures.0 c.take_store.ensures.1 c.if-take_store.true

pub returns : goal.returns
returns g c = no_store _ _ c.take_store.ensures.0 c.take_store.ensures.1 c.if-take_store.false
