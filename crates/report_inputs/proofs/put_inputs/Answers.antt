use Rattle.report_lines.specs.Puts.{puts_then}
use Rattle.lists.specs.Bytes.{bytes}
use Rattle.model_figures.specs.Inputs.{inputs_text}
use Rattle.report_inputs.proofs.put_inputs.Goals as goal

pub returns : goal.returns
unfolding inputs_text bytes
returns c =
    puts_then c.put_if-next.ensures c.put_each.ensures
