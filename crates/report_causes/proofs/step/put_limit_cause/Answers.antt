use native.Mathlib.Omega.{arith}
use Rattle.lists.specs.Bytes.{bytes}
use Rattle.report_lines.specs.Puts.{puts_then}
use Rattle.model_recipes.specs.declared.Step.{Step}
use mathlib.Core.Path.{ap}
use Rattle.recipes_kinds.specs.Known.{small-variable}
use Rattle.model_faults.specs.StepCount.{limit_cause}
use Rattle.report_causes.proofs.step.put_limit_cause.Goals as goal

pub offset_bounds-limits-v : goal.offset_bounds-limits-v
offset_bounds-limits-v c =
    let e = small-variable c.args.word in
    let f = ap (λ (s : Step). s.variable) c.step_of-s.ensures in
    omega (arith, e, f)

pub bounds-limits-v : goal.bounds-limits-v
bounds-limits-v c =
    let e = small-variable c.args.word in
    let f = ap (λ (s : Step). s.variable) c.step_of-s.ensures in
    omega (arith, e, f)

pub returns : goal.returns
unfolding limit_cause bytes
returns c =
    rw (
      ← c.step_of-s.ensures,
      ← c.head_at-h.ensures,
    )
    (puts_then c.tell-next.ensures
    c.say_two.ensures)
