use mathlib.Core.Path.{sym}
use Rattle.lists.specs.Every.{passing_end}
use Rattle.mending.specs.Changes.{same_stop, same_more}
use Rattle.mending.proofs.print.same_digits.Goals as goal

pub returns-then-byte_at-line_byte : goal.returns-then-byte_at-line_byte
returns-then-byte_at-line_byte c =
    same_stop c.args.text.now c.args.at c.args.word c.loop-k.invariant c.loop-k-test.true
    c.byte_at.ensures c.line_byte.ensures c.if-byte_at-line_byte.true

pub loop-k-preserved : goal.loop-k-preserved
loop-k-preserved c =
    same_more c.args.text.now c.args.at c.args.word c.loop-k.invariant c.loop-k-test.true
    c.byte_at.ensures c.line_byte.ensures c.if-byte_at-line_byte.false

pub returns : goal.returns
returns c = sym (passing_end c.loop-k.invariant c.loop-k-test.false)
