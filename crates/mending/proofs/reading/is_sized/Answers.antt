use native.Mathlib.Omega.{arith}
use Rattle.model_recipes.specs.Check.{right_sizes}
use Rattle.mending.specs.Reading.{inputs-small, steps-small}
use Rattle.mending.proofs.reading.is_sized.Goals as goal

pub overflow_add-result : goal.overflow_add-result
overflow_add-result c =
    omega (
      arith,
      c.input_count-inputs.ensures,
      c.step_count-steps.ensures,
      inputs-small
          c.args.text.now,
      steps-small c.args.text.now,
    )

pub returns : goal.returns
unfolding right_sizes
returns c = rw (c.input_count-inputs.ensures, c.step_count-steps.ensures)
