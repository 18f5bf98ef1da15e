use mathlib.Core.Path.{sym}
use Rattle.lists.specs.Every.{passing-none, passing_end}
use Rattle.npy_answers.specs.Tested.{numerals-more, numerals-stop}
use Rattle.npy_answers.proofs.all_numerals.Goals as goal

pub loop-k-init : goal.loop-k-init
loop-k-init c = passing-none _ _ _

pub returns-then-not-is_decimal-b : goal.returns-then-not-is_decimal-b
returns-then-not-is_decimal-b c =
    numerals-stop c.args.text.now
    c.loop-k.invariant c.loop-k-test.true
    c.byte_at-b.ensures c.is_decimal.ensures c.if-not-is_decimal-b.true

pub loop-k-preserved : goal.loop-k-preserved
loop-k-preserved c =
    numerals-more c.args.text.now
    c.loop-k.invariant c.loop-k-test.true
    c.byte_at-b.ensures c.is_decimal.ensures c.if-not-is_decimal-b.false

pub returns : goal.returns
returns c = sym (passing_end c.loop-k.invariant c.loop-k-test.false)
