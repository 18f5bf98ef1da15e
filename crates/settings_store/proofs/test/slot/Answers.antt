use mathlib.Core.Path.{refl}
use Rattle.model_settings.specs.Words.{slot_at}
use Rattle.settings_store.proofs.test.slot.Goals as goal

pub returns : goal.returns
unfolding slot_at
returns c = refl
