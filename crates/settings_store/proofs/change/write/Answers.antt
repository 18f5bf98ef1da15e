use native.Mathlib.Omega.{arith}
use mathlib.Core.Path.{refl}
use lib.ListN.{length-set}
use Rattle.model_settings.specs.Words.{put}
use Rattle.settings_store.proofs.change.write.Goals as goal

pub bounds-words-low : goal.bounds-words-low
bounds-words-low c = simp length-set (omega arith)

pub bounds-words-high : goal.bounds-words-high
bounds-words-high c = simp length-set (omega arith)

pub returns : goal.returns
unfolding put
returns c = refl
