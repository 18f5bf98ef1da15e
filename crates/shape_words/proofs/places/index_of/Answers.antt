use Rattle.model.specs.Places.{index}
use mathlib.Core.Path.{refl}
use Rattle.shape_words.proofs.places.index_of.Goals as goal

pub returns : goal.returns
unfolding index
returns c = refl
