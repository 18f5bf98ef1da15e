-- REFERENCE 12.3, 12.4. Document 02, W14: what `mend` prints for a text. Refusal 8 where a line up to the last step is
-- malformed or missing, word one's sizes are wrong or an input header is still refused; then 5 for the program's input
-- limits; both at no place in particular (64), and printed alone. Else a line for each line whose digits change, its
-- number from 1, the digits as they stood and the new ones; then the mended sheet. What follows the last step is not
-- looked at.
use Rattle.std.specs.Prelude.{ℕ, ◌+◌, ◌/◌, ◌%◌, ◌^◌, Bool, ◌&&◌, cond, List, [], ◌++◌, leb, eqb}
use Rattle.lists.specs.Every.{every}
use Rattle.lists.specs.Table.{table}
use Rattle.model.specs.declared.Refusal.{Refusal}
use Rattle.model.specs.Word.{good_word}
use Rattle.model.specs.Refusals.{no_refusal, is_none}
use Rattle.model_recipes.specs.Recipe.{input_heads, total, largest}
use Rattle.model_recipes.specs.Check.{ask_at, right_sizes}
use Rattle.model_texts.specs.Hex.{hex_digit, hex_line}
use Rattle.model_texts.specs.Printed.{space, decimal, refused_text}
use Rattle.model_texts.specs.Report.{joined}
use Rattle.model_mending.specs.Lines.{old_lined, old_word, old_digit}
use Rattle.model_mending.specs.Words.{mended_header, mended_word}

-- t: the bytes of the text
module _ (t : List ℕ) where
  -- word one's sizes
  unfoldable pub inputs_in : ℕ
  inputs_in = old_word t 0 / 2 ^ 56 % 2 ^ 8

  unfoldable pub steps_in : ℕ
  steps_in = old_word t 0 / 2 ^ 48 % 2 ^ 8

  -- the mended header on the line k
  abbrev pub header_in : ℕ → ℕ
  header_in k = mended_header (old_word t k)

  unfoldable pub headers_in : List ℕ
  headers_in = table inputs_in (λ i. header_in (1 + i))

  unfoldable pub count_in : ℕ
  count_in = total (input_heads headers_in)

  unfoldable pub lines_in : ℕ
  lines_in = 1 + inputs_in + (count_in + steps_in)

  abbrev pub header_right : ℕ → Bool
  header_right k = old_lined t k && good_word (header_in k)

  unfoldable pub is_readable : Bool
  is_readable =
      (old_lined t 0 && right_sizes inputs_in steps_in)
      && (every header_right inputs_in 1 && every (old_lined t) (count_in + steps_in) (1 + inputs_in))

  -- the program's input limits
  unfoldable pub is_within : Bool
  is_within = leb (largest (input_heads headers_in)) 256 && leb count_in 2048

  unfoldable pub mend_refusal : Refusal
  mend_refusal = ask_at is_readable 8 64 (ask_at is_within 5 64 no_refusal)

  -- of so many inputs and coefficients
  module _ (inputs count : ℕ) where
    unfoldable pub new_word : ℕ → ℕ
    new_word k = mended_word inputs count k (old_word t k)

    -- the line k keeps its 16 digits
    unfoldable pub is_kept : ℕ → Bool
    is_kept k = every (λ j. eqb (old_digit t k j) (hex_digit (new_word k) j)) 16 0

    unfoldable pub change_line : ℕ → List ℕ
    change_line k = decimal (k + 1) ++ (space ++ (table 16 (old_digit t k) ++ (space ++ hex_line (new_word k))))

    unfoldable pub change_text : ℕ → List ℕ
    change_text k = cond (is_kept k) [] (change_line k)

    abbrev pub new_line : ℕ → List ℕ
    new_line k = hex_line (new_word k)

  unfoldable pub report_text : List ℕ
  report_text = joined (change_text inputs_in count_in) lines_in

  unfoldable pub mended_sheet : List ℕ
  mended_sheet = joined (new_line inputs_in count_in) lines_in

  -- all that is printed
  unfoldable pub mended_text : List ℕ
  mended_text = cond (is_none mend_refusal) (report_text ++ mended_sheet) (refused_text mend_refusal)
