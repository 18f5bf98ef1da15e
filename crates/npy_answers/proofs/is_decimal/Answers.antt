use mathlib.Core.Path.{refl}
use Rattle.npy_answers.specs.Answer.{is_decimal}
use Rattle.npy_answers.proofs.is_decimal.Goals as goal

pub returns : goal.returns
unfolding is_decimal
returns c = refl
