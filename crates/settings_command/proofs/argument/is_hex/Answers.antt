use mathlib.Core.Path.{refl}
use Rattle.model_texts.specs.Hex.{is_digit}
use Rattle.settings_command.proofs.argument.is_hex.Goals as goal

pub returns : goal.returns
unfolding is_digit
returns c = refl
