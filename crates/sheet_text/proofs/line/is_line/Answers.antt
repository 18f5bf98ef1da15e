use Rattle.sheet_text.specs.Lines.{digits_more, digits-stop, digits_end}
use Rattle.lists.specs.Every.{passing-none}
use Rattle.sheet_text.proofs.line.is_line.Goals as goal

pub loop-k-init : goal.loop-k-init
loop-k-init c = passing-none _ _ _

pub returns-then-not-is_digit : goal.returns-then-not-is_digit
returns-then-not-is_digit c =
    digits-stop c.args.text.now
    c.loop-k.invariant c.loop-k-test.true
    c.byte_at.ensures c.is_digit.ensures c.if-not-is_digit.true

pub loop-k-preserved : goal.loop-k-preserved
loop-k-preserved c =
    digits_more c.args.text.now
    c.loop-k.invariant c.loop-k-test.true
    c.byte_at.ensures c.is_digit.ensures c.if-not-is_digit.false

pub returns : goal.returns
returns c = digits_end c.args.text.now c.loop-k.invariant c.loop-k-test.false c.byte_at-2.ensures
