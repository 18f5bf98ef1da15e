use Rattle.std.proofs.Common.{rules, tests}
use Rattle.std.proofs.lemmas.Iterator.{YieldsList-from_slice}
use Rattle.std.proofs.lemmas.Iterator.Search.{all_from_yields_List}
use Rattle.settings_command.specs.Argument.{is_decimal}
use Rattle.settings_command.specs.Tests.{number-long, number_is}
use Rattle.settings_command.proofs.argument.is_number.Goals as goal

pub returns-then-n : goal.returns-then-n
returns-then-n c =
    number_is _ c.if-n.true
    (all_from_yields_List (λ b. is_decimal b) _ _ _ c.all.ensures.ran (YieldsList-from_slice c.args.text.now cc)
    (λ x b q k. search (rules, tests)))

pub returns-else-n : goal.returns-else-n
returns-else-n c = number-long _ c.if-n.false
