use mathlib.Core.Path.{refl}
use Rattle.model_settings.specs.Store.{in_range, good_chance}
use Rattle.settings_store.proofs.test.in_range.Goals as goal

pub returns : goal.returns
unfolding in_range good_chance
returns c = refl
