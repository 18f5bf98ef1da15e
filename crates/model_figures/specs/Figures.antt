-- REFERENCE 9.8. The figures of a report: a line for each stored place, with its index and its coefficient; for one
-- variable the running sum too, and, where there is a total to take parts of, the tail (document 02, W1).
use Rattle.std.specs.Prelude.{ℕ, ◌+◌, Bool, cond, List, ◌++◌, ltb, eqb, Float, get_or}
use Rattle.std.specs.Float.{nan}
use Rattle.lists.specs.Bytes.{bytes}
use Rattle.lists.specs.Four.{at}
use Rattle.model.specs.declared.Header.{Header}
use Rattle.model.specs.Header.{len, stored}
use Rattle.model.specs.Places.{index}
use Rattle.model.specs.Readings.{sum_to}
use Rattle.model.specs.Tail.{tail_of}
use Rattle.model_texts.specs.Printed.{decimal}
use Rattle.model_texts.specs.Report.{when, joined}
use Rattle.model_decimals.specs.Text.{float_text}
use Rattle.model_figures.specs.Cells.{cell}

-- v the variable, i the index
unfoldable pub part_text : ℕ → List ℕ → ℕ → List ℕ
part_text vars i v = when (ltb v vars) (when (ltb 0 v) (bytes " ") ++ decimal (at i v))

-- the index of the place p, in brackets
unfoldable pub index_text : Header → ℕ → List ℕ
index_text h p = bytes "[" ++ (joined (part_text h.vars (index h.lengths p)) 4 ++ bytes "]")

-- with the column of parts or without
unfoldable pub heading_text : ℕ → Bool → List ℕ
heading_text vars parts =
    cond (eqb vars 1)
    (cond parts (bytes "failures chance or count     this many or fewer  more than this many\n") (bytes "failures chance or count     this many or fewer\n"))
    (bytes "index          coefficient\n")

-- the line of the place p, of other than one variable; xs the coefficients of a polynomial with the header h
unfoldable pub plain_line : Header → List Float → ℕ → List ℕ
plain_line h xs p = cell 0 15 (index_text h p) ++ (float_text (get_or xs p nan) ++ bytes "\n")

-- xs the coefficients of a polynomial with the header h; parts of the total in the last column, or no such column
module _ (h : Header) (xs : List Float) (total : Float) (parts : Bool) where
  -- the running sum up to the place p, and the tail
  unfoldable pub sums_text : ℕ → List ℕ
  sums_text p =
      let sum = float_text (sum_to xs (p + 1)) in
      cond parts (cell 29 20 sum ++ float_text (tail_of xs (len h 0) p total)) sum

  -- of one variable
  unfoldable pub sum_line : ℕ → List ℕ
  sum_line p = cell 0 9 (index_text h p) ++ (cell 9 20 (float_text (get_or xs p nan)) ++ (sums_text p ++ bytes "\n"))

  unfoldable pub figure_text : ℕ → List ℕ
  figure_text p = cond (eqb h.vars 1) (sum_line p) (plain_line h xs p)

  unfoldable pub figures_text : List ℕ
  figures_text = heading_text h.vars parts ++ joined figure_text (stored h)
