use Rattle.report_lines.specs.Puts.{puts_then}
use Rattle.model_texts.specs.Report.{step_text}
use Rattle.report_lines.proofs.lines.put_step.Goals as goal

pub returns : goal.returns
unfolding step_text
returns c =
    rw (← c.step_of.ensures) (puts_then c.put_kind-next.ensures c.put_fields.ensures)
