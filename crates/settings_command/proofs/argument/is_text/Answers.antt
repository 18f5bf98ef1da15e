use mathlib.Core.Path.{◌∙◌}
use Rattle.settings_command.specs.Tests.{text-compare}
use Rattle.settings_command.proofs.argument.is_text.Goals as goal

pub returns : goal.returns
returns c = c.eq.ensures ∙ text-compare _ _
