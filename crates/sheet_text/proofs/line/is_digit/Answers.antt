use mathlib.Core.Path.{refl}
use Rattle.model_texts.specs.Hex.{is_digit}
use Rattle.sheet_text.proofs.line.is_digit.Goals as goal

pub returns : goal.returns
unfolding is_digit
returns c = refl
