use mathlib.Core.Path.{sym, ◌∙◌}
use Rattle.settings_command.specs.Tests.{whole-nothing, whole_says}
use Rattle.settings_command.proofs.argument.whole_of.Goals as goal

pub returns-then-is_number : goal.returns-then-is_number
returns-then-is_number c =
    whole_says c.args.text.now (sym c.is_number.ensures ∙ c.if-is_number.true) c.number.ensures

pub returns-else-is_number : goal.returns-else-is_number
returns-else-is_number c = whole-nothing c.args.text.now (sym c.is_number.ensures ∙ c.if-is_number.false)
