use Rattle.lists.specs.Bytes.{bytes}
use Rattle.model_faults.specs.StepWord.{unused_text}
use Rattle.report_causes.proofs.step.put_unused.Goals as goal

pub returns : goal.returns
unfolding unused_text bytes
returns c = c.say_two.ensures
