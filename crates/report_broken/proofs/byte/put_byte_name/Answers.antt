use Rattle.lists.specs.Bytes.{bytes}
use Rattle.report_lines.specs.Puts.{puts_then}
use Rattle.model_faults.specs.Broken.{byte_text}
use Rattle.report_broken.proofs.byte.put_byte_name.Goals as goal

pub returns-then-b : goal.returns-then-b
unfolding byte_text bytes
returns-then-b c =
    rw
    c.if-b.true
    (puts_then c.put-a.ensures (puts_then
    c.put-c.ensures c.put.ensures))

pub returns : goal.returns
unfolding byte_text bytes
returns c = rw c.if-b.false c.put-2.ensures
