use Rattle.lists.specs.Bytes.{bytes}
use borrow.Author.Tests.{lt-ltb, le-ltb}
use Rattle.report_lines.specs.Puts.{puts_then}
use Rattle.model_faults.specs.Own.{where_text}
use Rattle.report_causes.proofs.place.put_where.Goals as goal

pub returns-then-p-k : goal.returns-then-p-k
unfolding where_text bytes
returns-then-p-k c =
    rw (lt-ltb _ _ c.if-p-k.true) (puts_then
    c.tell-next.ensures c.say.ensures)

pub returns : goal.returns
unfolding where_text bytes
returns c =
    rw (le-ltb _ _ c.if-p-k.false) (puts_then
    c.tell-next.ensures c.say-2.ensures)
