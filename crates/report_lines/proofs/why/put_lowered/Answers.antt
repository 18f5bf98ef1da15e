use Rattle.lists.specs.Bytes.{bytes}
use Rattle.report_lines.specs.Puts.{puts_none, puts_then}
use borrow.Author.Tests.{lt-ltb, le-ltb}
use Rattle.model_texts.specs.Report.{lowered_text}
use Rattle.report_lines.proofs.why.put_lowered.Goals as goal

pub returns-then-limit-from : goal.returns-then-limit-from
unfolding lowered_text bytes
returns-then-limit-from c =
    rw (lt-ltb _ _ c.if-limit-from.true) (puts_then c.tell-a.ensures
    (puts_then c.tell-b.ensures (puts_then c.tell-c.ensures
    (puts_then c.put_if-d.ensures
    c.put.ensures))))

pub returns : goal.returns
unfolding lowered_text bytes
returns c = rw (le-ltb _ _ c.if-limit-from.false) (puts_none _ _)
