-- REFERENCE 6.5, 9. Refusal 12 at a step, document 02, W13: the first coefficient of the operand a, its constant, is
-- not from -8 to 8. The values of a run that stops are gone, so it is not shown. Any x is n parts of x / n: the
-- exponential of x is that of a part to the power n.
use Rattle.std.specs.Prelude.{ℕ, List}
use Rattle.model_recipes.specs.Steps.{step_of}
use Rattle.model_faults.specs.Saying.{say}

unfoldable pub stop_cause : ℕ → List ℕ
stop_cause w =
    say "the first coefficient of place " (step_of w).a
    " is not from -8 to 8;\nwhere that is meant, divide that place by n, take exp, then the power n of it.\n"
