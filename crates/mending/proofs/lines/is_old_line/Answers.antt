use Rattle.mending.specs.Lines.{old-more, old-stop, old_end}
use Rattle.mending.proofs.lines.is_old_line.Goals as goal

pub returns-then-not-is_digit : goal.returns-then-not-is_digit
returns-then-not-is_digit c =
    old-stop c.args.text.now c.loop-k.invariant c.loop-k-test.true c.low_at.ensures
    c.is_digit.ensures c.if-not-is_digit.true

pub loop-k-preserved : goal.loop-k-preserved
loop-k-preserved c =
    old-more c.args.text.now c.loop-k.invariant c.loop-k-test.true c.low_at.ensures
    c.is_digit.ensures c.if-not-is_digit.false

pub returns : goal.returns
returns c =
    old_end c.args.text.now c.loop-k.invariant c.loop-k-test.false c.line_end.ensures
    c.byte_at.ensures
