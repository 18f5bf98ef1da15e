use Rattle.model_faults.specs.StepWord.{operand_text}
use Rattle.report_causes.proofs.step.put_operand.Goals as goal

pub returns-then-used : goal.returns-then-used
unfolding operand_text
returns-then-used c = rw c.if-used.true c.put_late.ensures

pub returns-else-used : goal.returns-else-used
unfolding operand_text
returns-else-used c = rw c.if-used.false c.put_unused.ensures
