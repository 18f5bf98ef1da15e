-- REFERENCE 9. What the program `limits` prints for a sheet: where it is refused what `recipe` prints and a sentence;
-- else all that is said of limits, what was put in, the verdict, and then the total and the figures of the last value.
use Rattle.std.specs.Prelude.{ℕ, ◌+◌, ◌-◌, cond, not, List, ◌++◌, eqb, Float, length}
use Rattle.lists.specs.Bytes.{bytes}
use Rattle.model.specs.declared.Header.{Header}
use Rattle.model.specs.Word.{word_of}
use Rattle.model.specs.Refusals.{is_none}
use Rattle.model_recipes.specs.Recipe.{announced_places}
use Rattle.model_texts.specs.Full.{fulls}
use Rattle.model_texts.specs.Report.{when, joined, place_text, cuts_text, end_text, verdict_text}
use Rattle.model_texts.specs.Sheet.{sheet_edition, sheet_headers, sheet_coefficients, sheet_steps, sheet_recipe, sheet_refusal, last_value}
use Rattle.model_figures.specs.Inputs.{inputs_text}
use Rattle.model_faults.specs.Fault.{fault_report}
use Rattle.model_forecast.specs.declared.Asked.{Asked}
use Rattle.model_forecast.specs.Reckoned.{reckoned_text}

-- known what all n places announce, fs their full lengths, ss the step words
unfoldable pub limit_lines : List Header → List ℕ → ℕ → List ℕ → ℕ → List ℕ
limit_lines known ss inputs fs n =
    bytes "Each place: what it is, its number of variables, and of each variable the\n"
    ++ (bytes "limit/most it stores. Operands are places, v is a variable, n a number.\n"
    ++ (joined (place_text known ss inputs) n
    ++ (joined (cuts_text known ss inputs fs) n
    ++ joined (end_text known ss inputs (n - 1)) 4)))

-- hs the inputs' header words, cs their coefficients
module _ (known : List Header) (hs : List ℕ) (cs : List Float) (ss : List ℕ) where
  abbrev pub place_count : ℕ
  place_count = length hs + length ss

  abbrev pub full_lengths : List ℕ
  full_lengths = fulls known ss (length hs) place_count

  -- w the header word of the answer, xs its coefficients, asked what the program's arguments ask for
  unfoldable pub forecast_text : ℕ → List Float → Asked → List ℕ
  forecast_text w xs asked =
      limit_lines known ss (length hs) full_lengths place_count
      ++ (inputs_text hs cs
      ++ (verdict_text known ss (length hs) full_lengths (place_count - 1)
      ++ reckoned_text known hs cs ss full_lengths w xs asked))

-- the edition, said where it is not 0 (document 02, W7)
unfoldable pub edition_text : ℕ → List ℕ
edition_text e = when (not (eqb e 0)) (bytes "Edition 1: a power of 0 is one with its operand's limits.\n")

-- t: the bytes of the sheet
module _ (t : List ℕ) where
  abbrev pub sheet_known : List Header
  sheet_known = announced_places (sheet_recipe t)

  unfoldable pub told_text : Asked → List ℕ
  told_text asked =
      cond (is_none (sheet_refusal t))
      (edition_text (sheet_edition t)
      ++ forecast_text sheet_known (sheet_headers t) (sheet_coefficients t) (sheet_steps t) (word_of (last_value t).head) (last_value t).coeffs asked)
      (fault_report t)
