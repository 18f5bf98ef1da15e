use Rattle.lists.specs.Bytes.{bytes}
use borrow.Author.Tests.{eq-eqb, ne_eqb}
use Rattle.model_faults.specs.StepCount.{has_text}
use Rattle.report_causes.proofs.step.put_has.Goals as goal

pub returns-then-m-eq0 : goal.returns-then-m-eq0
unfolding has_text bytes
returns-then-m-eq0 c = rw (eq-eqb _ _ c.if-m-eq0.true) c.put.ensures

pub returns : goal.returns
unfolding has_text bytes
returns c = rw (ne_eqb _ _ c.if-m-eq0.false) c.say.ensures
