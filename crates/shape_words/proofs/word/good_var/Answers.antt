use mathlib.Core.Path.{refl}
use Rattle.model.specs.Header.{good_var}
use Rattle.shape_words.proofs.word.good_var.Goals as goal

pub returns : goal.returns
unfolding good_var
returns c = refl
