-- What rests on laws of specs/ (Called).
use Rattle.std.specs.Prelude.{ℕ, ◌<◌, length, get_or}
use Rattle.laws_examples.specs.Examples.{rows, examples-hold}
use Rattle.laws_examples.specs.Called.{each_row_lem, holds, no_row}

-- row k of the table
pub in_row : (k : ℕ) → k < length rows → holds (get_or rows k no_row)
in_row = each_row_lem rows examples-hold
