-- REFERENCE 9.6. What was put in: of each input its place, the sum of its coefficients, whether it fills a limit, and
-- its first coefficients, four at most. hs are the inputs' header words, cs their coefficients, end to end.
use Rattle.std.specs.Prelude.{ℕ, ◌+◌, ◌*◌, min, Bool, ◌&&◌, ◌||◌, cond, List, ◌++◌, ltb, eqb, Float, length, get_or, take, drop}
use Rattle.std.specs.Float.{nan}
use Rattle.lists.specs.Bytes.{bytes}
use Rattle.model.specs.declared.Header.{Header}
use Rattle.model.specs.Header.{limit, len, stored}
use Rattle.model.specs.Word.{header_of}
use Rattle.model.specs.Readings.{sum_to}
use Rattle.model_recipes.specs.Recipe.{input_heads, total}
use Rattle.model_texts.specs.Report.{tell, when, joined}
use Rattle.model_decimals.specs.Text.{float_text}
use Rattle.model_figures.specs.Cells.{cell}

-- h stores as many rows as a limit lets it
abbrev pub fills_in : Header → ℕ → Bool
fills_in h v = ltb v h.vars && eqb (len h v) (limit h v)

unfoldable pub fills_some : Header → Bool
fills_some h = (fills_in h 0 || fills_in h 1) || (fills_in h 2 || fills_in h 3)

unfoldable pub fill_text : Header → List ℕ
fill_text h = cond (eqb h.vars 0) (bytes ", a constant\n") (cond (fills_some h) (bytes ", fills its limit\n") (bytes ", below its limit\n"))

-- xs the coefficients from the first of this input on; m of them are shown
unfoldable pub first_text : List Float → ℕ → ℕ → List ℕ
first_text xs m k =
    let t = float_text (get_or xs k nan) in cond (ltb (k + 1) m) (cell (2 + 15 * k) 15 t) t

unfoldable pub firsts_text : List Float → ℕ → List ℕ
firsts_text xs m = bytes "  " ++ (joined (first_text xs m) m ++ bytes "\n")

-- the input at the place i
unfoldable pub input_lines : ℕ → Header → List Float → List ℕ
input_lines i h xs =
    tell "place " i ++ (bytes ": sum " ++ (float_text (sum_to xs (stored h)) ++ (fill_text h ++ firsts_text xs (min 4 (stored h)))))

module _ (hs : List ℕ) (cs : List Float) where
  -- where the coefficients of the input i begin
  abbrev pub input_start : ℕ → ℕ
  input_start i = total (input_heads (take i hs))

  abbrev pub input_header : ℕ → Header
  input_header i = header_of (get_or hs i 0)

  abbrev pub input_coefficients : ℕ → List Float
  input_coefficients i = drop (input_start i) cs

  unfoldable pub input_text : ℕ → List ℕ
  input_text i = input_lines i (input_header i) (input_coefficients i)

  unfoldable pub inputs_text : List ℕ
  inputs_text =
      when (ltb 0 (length hs)) (bytes "What was put in: of each input its sum, and its first coefficients.\n")
      ++ joined input_text (length hs)
