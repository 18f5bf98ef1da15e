use Rattle.report_lines.specs.Puts.{puts_then}
use Rattle.lists.specs.Bytes.{bytes}
use Rattle.model_figures.specs.Inputs.{firsts_text}
use Rattle.report_inputs.proofs.put_firsts.Goals as goal

pub returns : goal.returns
unfolding firsts_text bytes
returns c =
    puts_then c.put-a.ensures (puts_then c.put_shown-b.ensures c.put.ensures)
