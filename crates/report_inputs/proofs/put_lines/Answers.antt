use Rattle.report_lines.specs.Puts.{puts_then}
use Rattle.lists.specs.Bytes.{bytes}
use Rattle.model_figures.specs.Inputs.{input_lines}
use Rattle.report_inputs.proofs.put_lines.Goals as goal

pub returns : goal.returns
unfolding input_lines bytes
returns c =
    rw (← c.stored_of-n.ensures, ← c.sum_to.ensures, ← c.least.ensures) (puts_then c.tell-a.ensures
    (puts_then c.put-b.ensures (puts_then c.put_float-c.ensures (puts_then c.put_fill-d.ensures c.put_firsts.ensures))))
