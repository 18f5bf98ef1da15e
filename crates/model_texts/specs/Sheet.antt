-- REFERENCE 7.1 to 7.4. Document 01, the program `recipe`: a sheet is lines of one word each. Word one is inputs (8
-- bits), steps (8), zeros; then input headers, input coefficients, steps. Reading in order, it is refused at the first
-- of: a malformed or missing line (8), word one's sizes or zeros (7), an input header (1, at its place, with its fault:
-- document 02, W5), a byte after
-- the last line (8); 7 and 8 are at no place in particular (64). Then comes the check, then the program's own limits:
-- 256 coefficients an input or step, 2,048 for all inputs, 2,048 a pool (else 5, 64). Then the run, on buffers exactly
-- as long as the check says; by document 02, W13, it may stop at a step (12).
use Rattle.std.specs.Prelude.{ℕ, zero, suc, ◌+◌, ◌-◌, ◌*◌, ◌/◌, ◌%◌, ◌^◌, List, Bool, ◌&&◌, cond, leb, eqb, length, get_or, Float}
use Rattle.std.specs.Float.Ieee.{of_bits}
use Rattle.std.specs.Float.{binary64}
use Rattle.lists.specs.Every.{every}
use Rattle.lists.specs.Table.{table}
use Rattle.model.specs.declared.Refusal.{Refusal}
use Rattle.model.specs.Word.{good_word, word_of}
use Rattle.model.specs.Refusals.{ask_for, no_refusal, is_none, zeros}
use Rattle.model.specs.Gates.{bad_word}
use Rattle.model.specs.Poly.{Poly}
use Rattle.model_recipes.specs.Recipe.{Recipe, recipe_of, input_heads, announced_places, announced_steps, total, largest}
use Rattle.model_recipes.specs.Check.{ask_at, or_else, known_edition, right_sizes, check_refusal}
use Rattle.model_recipes.specs.Run.{step_values, no_value, run_refusal, run_stop}
use Rattle.model_texts.specs.Hex.{is_line, word_at}
use Rattle.model_texts.specs.Printed.{done_text, refused_text}

-- the program's own limits
unfoldable pub own_refusal : Recipe → Refusal
own_refusal it =
    ask_at ((leb (largest (announced_places it)) 256 && leb (total (input_heads it.headers)) 2048) && leb (total (announced_steps it)) 2048) 5 64
    no_refusal

-- what a recipe on a sheet is refused by once it is read
unfoldable pub recipe_refusal : Recipe → List Float → Refusal
recipe_refusal it cs =
    or_else (check_refusal it)
    (or_else (own_refusal it)
    (or_else (run_refusal it cs (zeros (total (announced_steps it))) (table (length it.steps) (λ k. 0)) (zeros (8 * largest (announced_steps it))))
    (run_stop it cs)))

-- t: the bytes of the sheet
module _ (t : List ℕ) where
  -- line number k: whether it is one, and its word
  abbrev pub lined : ℕ → Bool
  lined k = is_line t (17 * k)

  abbrev pub word_on : ℕ → ℕ
  word_on k = word_at t (17 * k)

  -- word one's fields
  unfoldable pub input_count : ℕ
  input_count = word_on 0 / 2 ^ 56 % 2 ^ 8

  unfoldable pub step_count : ℕ
  step_count = word_on 0 / 2 ^ 48 % 2 ^ 8

  unfoldable pub sheet_edition : ℕ
  sheet_edition = word_on 0 / 2 ^ 44 % 2 ^ 4

  unfoldable pub spare : ℕ
  spare = word_on 0 % 2 ^ 44

  unfoldable pub sheet_headers : List ℕ
  sheet_headers = table input_count (λ i. word_on (1 + i))

  unfoldable pub coefficient_count : ℕ
  coefficient_count = total (input_heads sheet_headers)

  unfoldable pub sheet_coefficients : List Float
  sheet_coefficients = table coefficient_count (λ j. of_bits binary64 (word_on (1 + input_count + j)))

  unfoldable pub sheet_steps : List ℕ
  sheet_steps = table step_count (λ j. word_on (1 + input_count + coefficient_count + j))

  unfoldable pub sheet_recipe : Recipe
  sheet_recipe = recipe_of sheet_edition sheet_headers sheet_steps

  -- n headers, the first of them input i's
  unfoldable pub headers_refusal : ℕ → ℕ → Refusal
  headers_refusal zero i = no_refusal
  headers_refusal (suc n) i = ask_at (lined (1 + i)) 8 64 (ask_for (good_word (word_on (1 + i))) (bad_word (word_on (1 + i)) i) (headers_refusal n (suc i)))

  -- how many lines follow the headers
  abbrev pub rest_count : ℕ
  rest_count = coefficient_count + step_count

  unfoldable pub read_refusal : Refusal
  read_refusal =
      ask_at (lined 0) 8 64
      (ask_at (known_edition sheet_edition && (right_sizes input_count step_count && eqb spare 0)) 7 64
      (or_else (headers_refusal input_count 0)
      (ask_at (every lined rest_count (1 + input_count)) 8 64
      (ask_at (leb (length t) (17 * (1 + input_count + rest_count))) 8 64
      no_refusal))))

  unfoldable pub sheet_refusal : Refusal
  sheet_refusal = or_else read_refusal (recipe_refusal sheet_recipe sheet_coefficients)

  unfoldable pub last_value : Poly
  last_value = get_or (step_values sheet_recipe sheet_coefficients) (step_count - 1) no_value

  -- all that is printed
  unfoldable pub sheet_output : List ℕ
  sheet_output = cond (is_none sheet_refusal) (done_text step_count (word_of last_value.head) last_value.coeffs) (refused_text sheet_refusal)
