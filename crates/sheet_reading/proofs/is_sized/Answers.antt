use native.Mathlib.Omega.{arith}
use Rattle.model_recipes.specs.Check.{right_sizes}
use Rattle.model_texts.specs.Sheet.{spare}
use Rattle.sheet_reading.specs.Reading.{count_small, step_small}
use Rattle.sheet_reading.proofs.is_sized.Goals as goal

pub overflow_add-result : goal.overflow_add-result
overflow_add-result c =
    omega (
      arith,
      c.input_count-inputs.ensures,
      c.step_count-steps.ensures,
      count_small c.args.text.now,
      step_small c.args.text.now,
    )

pub returns : goal.returns
unfolding right_sizes spare
returns c =
    rw (c.input_count-inputs.ensures, c.step_count-steps.ensures, c.edition_of.ensures, c.word_at.ensures)
