-- Document 02, W2, what the program `to_npy` reads: an answer of `recipe` (REFERENCE 7.4). t: the bytes of a text.
use Rattle.std.specs.Prelude.{ℕ, ◌+◌, ◌-◌, ◌*◌, List, Bool, ◌&&◌, ◌||◌, cond, leb, ltb, eqb, length, Float}
use Rattle.std.specs.Float.Ieee.{of_bits}
use Rattle.std.specs.Float.{binary64}
use Rattle.lists.specs.Every.{every}
use Rattle.lists.specs.Table.{table}
use Rattle.model.specs.Header.{stored}
use Rattle.model.specs.Word.{header_of, good_word}
use Rattle.model_texts.specs.Hex.{is_line, word_at}
use Rattle.model_texts.specs.Printed.{done_word, refused_word}
use Rattle.npy_files.specs.Frame.{byte_at, starts_with}

-- '0' to '9'
unfoldable pub is_decimal : ℕ → Bool
is_decimal b = leb 48 b && leb b 57

module _ (t : List ℕ) where
  -- where the lines of words begin: behind "done ", one digit or two, and a newline; 0 where t does not begin so
  unfoldable pub lines_start : ℕ
  lines_start =
      cond (starts_with done_word t && is_decimal (byte_at t 5))
      (cond (eqb (byte_at t 6) 10) 7 (cond (is_decimal (byte_at t 6) && eqb (byte_at t 7) 10) 8 0))
      0

  -- line number k of them
  abbrev pub line_place : ℕ → ℕ
  line_place k = lines_start + 17 * k

  abbrev pub line_here : ℕ → Bool
  line_here k = is_line t (line_place k)

  -- the first is the header word; as many coefficients follow as it says
  abbrev pub head_word : ℕ
  head_word = word_at t lines_start

  abbrev pub value_count : ℕ
  value_count = stored (header_of head_word)

  abbrev pub line_value : ℕ → Float
  line_value j = of_bits binary64 (word_at t (line_place (1 + j)))

  -- "done ", then a header word and its coefficients, a line each, and nothing behind them
  unfoldable pub is_answer : Bool
  is_answer =
      ltb 0 lines_start
      && (is_line t lines_start && (good_word head_word && (eqb (length t) (line_place (1 + value_count)) && every line_here value_count 1)))

  unfoldable pub answer_values : List Float
  answer_values = table value_count line_value

  -- a digit or a space
  unfoldable pub is_numeral : ℕ → Bool
  is_numeral p = is_decimal (byte_at t p) || eqb (byte_at t p) 32

  -- one line of at most 64 bytes: "refused ", then digits and spaces
  unfoldable pub is_refusal : Bool
  is_refusal =
      starts_with refused_word t
      && (leb 9 (length t) && (leb (length t) 64 && (eqb (byte_at t (length t - 1)) 10 && every is_numeral (length t - 9) 8)))
