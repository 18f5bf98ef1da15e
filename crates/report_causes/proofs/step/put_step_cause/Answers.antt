use borrow.Author.Tests.{eq-eqb, ne_eqb}
use Rattle.model_faults.specs.Fault.{step_cause}
use Rattle.report_causes.proofs.step.put_step_cause.Goals as goal

pub returns-then-number-eq7 : goal.returns-then-number-eq7
unfolding step_cause
returns-then-number-eq7 c = rw (eq-eqb _ _ c.if-number-eq7.true) c.put_formed_cause.ensures

pub returns-then-number-eq3 : goal.returns-then-number-eq3
unfolding step_cause
returns-then-number-eq3 c =
    rw (ne_eqb _ _ c.if-number-eq7.false, eq-eqb _ _ c.if-number-eq3.true)
    c.put_variable_cause.ensures

pub returns-then-number-eq4 : goal.returns-then-number-eq4
unfolding step_cause
returns-then-number-eq4 c =
    rw (
      ne_eqb _ _ c.if-number-eq7.false,
      ne_eqb _ _
          c.if-number-eq3.false,
      eq-eqb _ _ c.if-number-eq4.true,
    )
    c.put_limit_cause.ensures

pub returns-then-number-eq12 : goal.returns-then-number-eq12
unfolding step_cause
returns-then-number-eq12 c =
    rw (
      ne_eqb _ _ c.if-number-eq7.false,
      ne_eqb _ _ c.if-number-eq3.false,
      ne_eqb _ _ c.if-number-eq4.false,
      eq-eqb _ _ c.if-number-eq12.true,
    )
    c.put_stop_cause.ensures

pub returns : goal.returns
unfolding step_cause
returns c =
    rw (
      ne_eqb _ _ c.if-number-eq7.false,
      ne_eqb _ _ c.if-number-eq3.false,
      ne_eqb _ _ c.if-number-eq4.false,
      ne_eqb _ _ c.if-number-eq12.false,
    )
    c.put_count_cause.ensures
