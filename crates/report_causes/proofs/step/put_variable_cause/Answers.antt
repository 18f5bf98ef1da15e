use Rattle.lists.specs.Bytes.{bytes}
use Rattle.report_lines.specs.Puts.{puts_then}
use Rattle.model_faults.specs.StepCount.{variable_cause}
use Rattle.report_causes.proofs.step.put_variable_cause.Goals as goal

pub returns : goal.returns
unfolding variable_cause bytes
returns c =
    rw (
      ← c.step_of-s.ensures,
      ← c.head_at-h.ensures,
    )
    (puts_then c.tell-a.ensures (puts_then
    c.tell-b.ensures c.put_has.ensures))
