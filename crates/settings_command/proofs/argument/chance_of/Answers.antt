use mathlib.Core.Path.{sym, ◌∙◌}
use Rattle.settings_command.specs.Tests.{chance-bits, chance-typed, chance-refused}
use Rattle.settings_command.proofs.argument.chance_of.Goals as goal

pub returns-then-is_bits : goal.returns-then-is_bits
returns-then-is_bits c =
    chance-bits c.args.text.now (sym c.is_bits.ensures ∙ c.if-is_bits.true) c.word_at.ensures

pub returns-in-Some : goal.returns-in-Some
returns-in-Some c =
    chance-typed c.args.text.now (sym c.is_bits.ensures ∙ c.if-is_bits.false) c.read-read.ensures c.in-Some.is c.word_of.ensures

pub returns-in-None : goal.returns-in-None
returns-in-None c =
    chance-refused c.args.text.now (sym c.is_bits.ensures ∙ c.if-is_bits.false) c.read-read.ensures c.in-None.is
