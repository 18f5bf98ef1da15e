use Rattle.npy_answers.specs.Tested.{not_refused, too_short, too_long, not-ended, numerals_decide}
use Rattle.npy_answers.proofs.is_refusal.Goals as goal

pub returns-then-not-starts_with : goal.returns-then-not-starts_with
returns-then-not-starts_with c =
    not_refused c.args.text.now c.starts_with.ensures
    c.if-not-starts_with.true

pub returns-then-n-lt9 : goal.returns-then-n-lt9
returns-then-n-lt9 c =
    too_short c.args.text.now c.starts_with.ensures
    c.if-not-starts_with.false c.if-n-lt9.true

pub returns-then-n-gt64 : goal.returns-then-n-gt64
returns-then-n-gt64 c =
    too_long c.args.text.now
    c.starts_with.ensures c.if-not-starts_with.false
    c.if-n-lt9.false c.if-n-gt64.true

pub returns-then-byte_at-ne10 : goal.returns-then-byte_at-ne10
returns-then-byte_at-ne10 c =
    not-ended c.args.text.now
    c.starts_with.ensures
    c.if-not-starts_with.false c.if-n-lt9.false
    c.if-n-gt64.false c.byte_at.ensures c.if-byte_at-ne10.true

pub returns : goal.returns
returns c =
    numerals_decide c.args.text.now
    c.starts_with.ensures
    c.if-not-starts_with.false c.if-n-lt9.false
    c.if-n-gt64.false c.byte_at.ensures c.if-byte_at-ne10.false
    c.all_numerals.ensures
