use Rattle.report_causes.specs.Announced.{Announcing}
use Rattle.report_causes.proofs.announced.announce_steps.Given as goal

abbrev pub invariant-loop-i : goal.invariant-loop-i
invariant-loop-i l = Announcing l.edition l.steps l.inputs l.initial.known l.known l.i
