use mathlib.Core.Path.{refl}
use Rattle.taylor.proofs.answers.refusal_word.Goals as goal

pub returns : goal.returns
returns c = refl
