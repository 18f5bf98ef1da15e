use Rattle.std.proofs.Common.{rules, tests, arith, ◌∙◌, drop, take_all, length-drop}
use Rattle.std.proofs.lemmas.Iterator.{YieldsList-from_slice}
use Rattle.std.proofs.lemmas.Iterator.Search.{all_from_yields_List}
use Rattle.model_texts.specs.Hex.{is_digit}
use Rattle.settings_command.specs.Tests.{bits-short, bits-other, bits_are}
use Rattle.settings_command.proofs.argument.is_bits.Goals as goal

pub returns-then-text-ne18 : goal.returns-then-text-ne18
returns-then-text-ne18 c = bits-short _ c.if-text-ne18.true

pub returns-then-text : goal.returns-then-text
returns-then-text c =
    bits_are _ c.if-text-ne18.false c.if-text.true
    (all_from_yields_List is_digit _ _ _ c.all.ensures.ran (YieldsList-from_slice (drop 2 c.args.text.now)
    (c.iter.ensures.rest ∙ take_all _ _ (simp length-drop (omega arith))))
    (λ x b q k. search (rules, tests)))

pub returns-else-text : goal.returns-else-text
returns-else-text c = bits-other _ c.if-text-ne18.false c.if-text.false
