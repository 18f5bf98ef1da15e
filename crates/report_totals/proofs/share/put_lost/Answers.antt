use Rattle.report_lines.specs.Puts.{puts_then}
use Rattle.lists.specs.Bytes.{bytes}
use Rattle.model_forecast.specs.Shares.{lost_text}
use Rattle.report_totals.proofs.share.put_lost.Goals as goal

pub returns-then-given : goal.returns-then-given
unfolding lost_text bytes
returns-then-given c =
    rw c.if-given.true (puts_then c.put_float-next.ensures c.put.ensures)

pub returns-then-whole : goal.returns-then-whole
unfolding lost_text bytes
returns-then-whole c =
    rw (c.if-given.false, c.if-whole.true) c.put-then-whole.ensures

pub returns : goal.returns
unfolding lost_text bytes
returns c =
    rw (
      c.if-given.false,
      c.if-whole.false,
    ) (puts_then c.put_float-next-2.ensures c.put-2.ensures)
