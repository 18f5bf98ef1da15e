-- Every limit is printed: the line of each place, what limits cut off it and what decides the limits of the answer all
-- stand in what is said of limits, which knows no coefficient.
use Rattle.std.specs.Prelude.{ℕ, ◌-◌, ◌<◌, List, ◌++◌}
use Rattle.lists.specs.Bytes.{bytes}
use Rattle.model.specs.declared.Header.{Header}
use Rattle.model_texts.specs.Report.{joined, place_text, cuts_text, end_text}
use Rattle.model_forecast.specs.Told.{limit_lines}
use Rattle.report_lines.specs.Before.{Within, within-behind, within-before, joined-each}

abbrev pub line_one : List ℕ
line_one = bytes "Each place: what it is, its number of variables, and of each variable the\n"

abbrev pub line_two : List ℕ
line_two = bytes "limit/most it stores. Operands are places, v is a variable, n a number.\n"

module _ (known : List Header) (ss : List ℕ) (inputs : ℕ) (full : List ℕ) (n : ℕ) where
  abbrev places : List ℕ
  places = joined (place_text known ss inputs) n

  abbrev cuts : List ℕ
  cuts = joined (cuts_text known ss inputs full) n

  abbrev ends : List ℕ
  ends = joined (end_text known ss inputs (n - 1)) 4

  -- the line of a place, with its number of variables, its limits and its lengths
  pub place-told : (p : ℕ) → p < n → Within (place_text known ss inputs p) (limit_lines known ss inputs full n)
  unfolding limit_lines
  place-told p l =
      within-behind line_one
      (within-behind line_two (within-before (cuts ++ ends) (joined-each (place_text known ss inputs) n p l)))

  -- what limits cut off a place
  pub cuts-told : (p : ℕ) → p < n → Within (cuts_text known ss inputs full p) (limit_lines known ss inputs full n)
  unfolding limit_lines
  cuts-told p l =
      within-behind line_one
      (within-behind line_two
      (within-behind places (within-before ends (joined-each (cuts_text known ss inputs full) n p l))))

  -- what decides each limit of the answer
  pub end-told : (v : ℕ) → v < 4 → Within (end_text known ss inputs (n - 1) v) (limit_lines known ss inputs full n)
  unfolding limit_lines
  end-told v l =
      within-behind line_one
      (within-behind line_two
      (within-behind places (within-behind cuts (joined-each (end_text known ss inputs (n - 1)) 4 v l))))
