use Rattle.lists.specs.Bytes.{bytes}
use Rattle.model_faults.specs.StepStop.{stop_cause}
use Rattle.report_causes.proofs.step.put_stop_cause.Goals as goal

pub returns : goal.returns
unfolding stop_cause bytes
returns c = rw (← c.step_of-s.ensures) c.say.ensures
