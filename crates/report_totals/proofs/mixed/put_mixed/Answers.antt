use Rattle.report_lines.specs.Puts.{puts_then, puts_none}
use Rattle.lists.specs.Bytes.{bytes}
use borrow.Author.Tests.{lt-ltb, le-ltb}
use Rattle.model_forecast.specs.Mixed.{mixed_text}
use Rattle.report_totals.proofs.mixed.put_mixed.Goals as goal

pub returns-then-m-ge64 : goal.returns-then-m-ge64
unfolding mixed_text
returns-then-m-ge64 c = rw (le-ltb _ _ c.if-m-ge64.true) (puts_none _ _)

pub returns : goal.returns
unfolding mixed_text bytes
returns c =
    rw (lt-ltb _ _ c.if-m-ge64.false) (puts_then c.tell-a.ensures (puts_then
    c.put-b.ensures c.put.ensures))
