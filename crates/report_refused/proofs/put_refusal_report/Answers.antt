use Rattle.model_faults.specs.Fault.{fault_report}
use Rattle.report_lines.specs.Puts.{puts_then}
use Rattle.report_refused.proofs.put_refusal_report.Goals as goal

pub returns : goal.returns
unfolding fault_report
returns c =
    rw (← c.requires.0) (puts_then c.put_refused-next.ensures c.put_fault_text.ensures)
