use mathlib.Core.Path.{sym}
use native.Mathlib.Omega.{arith}
use Rattle.sheet_text.specs.Put.{put-none}
use Rattle.mending.specs.Changes.{may-not, may_do}
use Rattle.mending.proofs.print.put_changed.Goals as goal

pub returns-then-same_digits : goal.returns-then-same_digits
returns-then-same_digits c =
    rw (sym (may-not c.args.text.now c.args.line c.args.from c.args.word
    c.same_digits.ensures c.if-same_digits.true)) (put-none _ _ (omega arith))

pub returns : goal.returns
returns c =
    rw (sym (may_do c.args.text.now c.args.line c.args.from c.args.word
    c.same_digits.ensures c.if-same_digits.false)) c.put_change.ensures
