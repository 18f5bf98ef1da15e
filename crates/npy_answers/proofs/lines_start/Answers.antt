use Rattle.npy_answers.specs.Tested.{start_none, start_seven, start-eight, start-last}
use Rattle.npy_answers.proofs.lines_start.Goals as goal

pub returns-then-not-starts_with-is_decimal : goal.returns-then-not-starts_with-is_decimal
returns-then-not-starts_with-is_decimal c =
    start_none c.args.text.now
    c.starts_with.ensures c.byte_at.ensures
    c.is_decimal.ensures
    c.if-not-starts_with-is_decimal.true

pub returns-then-byte_at-eq10 : goal.returns-then-byte_at-eq10
returns-then-byte_at-eq10 c =
    start_seven c.args.text.now
    c.starts_with.ensures c.byte_at.ensures
    c.is_decimal.ensures
    c.if-not-starts_with-is_decimal.false c.byte_at-2.ensures c.if-byte_at-eq10.true

pub returns-then-is_decimal-byte_at : goal.returns-then-is_decimal-byte_at
returns-then-is_decimal-byte_at c =
    start-eight
    c.args.text.now
    c.starts_with.ensures c.byte_at.ensures
    c.is_decimal.ensures
    c.if-not-starts_with-is_decimal.false c.byte_at-2.ensures c.if-byte_at-eq10.false
    c.byte_at-3.ensures
    c.is_decimal-2.ensures c.byte_at-4.ensures c.if-is_decimal-byte_at.true

pub returns : goal.returns
returns c =
    start-last
    c.args.text.now
    c.starts_with.ensures c.byte_at.ensures
    c.is_decimal.ensures
    c.if-not-starts_with-is_decimal.false c.byte_at-2.ensures c.if-byte_at-eq10.false
    c.byte_at-3.ensures
    c.is_decimal-2.ensures c.byte_at-4.ensures c.if-is_decimal-byte_at.false
