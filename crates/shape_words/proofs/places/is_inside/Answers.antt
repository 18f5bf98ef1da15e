use Rattle.model.specs.Places.{inside}
use mathlib.Core.Path.{refl}
use Rattle.shape_words.proofs.places.is_inside.Goals as goal

pub returns : goal.returns
unfolding inside
returns c = refl
