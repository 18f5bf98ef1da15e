-- REFERENCE 7.1, 9. Refusal 8, from document 01's rule of reading: lines of 16 lower-case hex digits, each ended by a
-- newline, as many as word one and the input headers ask for, and no byte behind them. The first line that is wrong is
-- told, counted from 1, and its first byte that is wrong says how.
use Rattle.std.specs.Prelude.{ℕ, ◌+◌, ◌*◌, Bool, ◌&&◌, ◌||◌, cond, List, [], ◌∷◌, ◌++◌, ltb, leb, eqb, length}
use Rattle.lists.specs.Bytes.{bytes}
use Rattle.model_texts.specs.Hex.{is_digit, byte_at, digit_at}
use Rattle.model_texts.specs.Report.{tell}
use Rattle.model_texts.specs.Sheet.{lined, input_count, step_count, rest_count}
use Rattle.model_faults.specs.Saying.{say, first_not}

-- 'A' to 'F'
abbrev pub is_capital : ℕ → Bool
is_capital b = leb 65 b && leb b 70

-- a space or a tab
abbrev pub is_blank : ℕ → Bool
is_blank b = eqb b 32 || eqb b 9

-- a byte that can be shown, and how a byte is named
abbrev pub is_shown : ℕ → Bool
is_shown b = leb 33 b && leb b 126

unfoldable pub byte_text : ℕ → List ℕ
byte_text b = cond (is_shown b) (bytes "'" ++ ((b ∷ []) ++ bytes "'")) (bytes "an unreadable byte")

-- ---- a byte b that is wrong behind c right ones of its line; columns count from 1

-- among the first 16
unfoldable pub no_digit_text : ℕ → ℕ → List ℕ
no_digit_text b c =
    cond (is_capital b) (say "a capital letter in column " (c + 1) "; write a to f.\n")
    (byte_text b ++ say " in column " (c + 1) " is no digit; write 0 to 9, a to f.\n")

-- behind 16 digits
unfoldable pub no_newline_text : ℕ → List ℕ
no_newline_text b =
    cond (is_digit b || is_capital b) (bytes "too long, more than 16 digits; write 16 and a newline.\n")
    (byte_text b ++ bytes " in column 17; write 16 digits and a newline.\n")

unfoldable pub short_text : ℕ → List ℕ
short_text c = cond (eqb c 0) (bytes "an empty line; each line has 16 digits.\n") (say "too short, only " c " of 16 digits; write all.\n")

unfoldable pub byte_fault : ℕ → ℕ → List ℕ
byte_fault b c =
    cond (eqb b 10) (short_text c)
    (cond (eqb b 13) (say "a carriage return in column " (c + 1) "; end lines with a newline alone.\n")
    (cond (is_blank b) (say "a blank in column " (c + 1) "; write no spaces and no tabs.\n")
    (cond (ltb c 16) (no_digit_text b c) (no_newline_text b))))

-- ---- the sheet ends in its line k, counted from 0, behind c right bytes

-- n lines are needed, as far as is known there: word one and the headers, h lines, say it
unfoldable pub asked_text : ℕ → ℕ → ℕ → List ℕ
asked_text h k n =
    cond (eqb k 0) (bytes ".\n")
    (cond (ltb k h) (say "; " n " lines or more are needed.\n") (say "; " n " lines are needed.\n"))

unfoldable pub ended_text : ℕ → ℕ → List ℕ
ended_text k c =
    cond (eqb c 0) (cond (eqb k 0) (bytes "the sheet is empty") (bytes "the sheet ends before it"))
    (cond (ltb c 16) (say "the sheet ends after " c " of 16 digits") (bytes "the sheet ends without its newline"))

-- t: the bytes of the sheet
module _ (t : List ℕ) where
  -- word one and the headers
  abbrev pub head_lines : ℕ
  head_lines = 1 + input_count t

  -- how many lines there have to be: each input has one coefficient at least, and the headers say how many in all
  abbrev pub least_lines : ℕ
  least_lines = head_lines + input_count t + step_count t

  abbrev pub all_lines : ℕ
  all_lines = head_lines + rest_count t

  -- how many digits the line k begins with, 16 at most
  unfoldable pub digits_on : ℕ → ℕ
  digits_on k = first_not (λ j. digit_at t (17 * k + j)) 16 0

  unfoldable pub line_cause : ℕ → ℕ → List ℕ
  line_cause k n =
      let c = digits_on k in
      cond (leb (length t) (17 * k + c)) (ended_text k c ++ asked_text head_lines k n) (byte_fault (byte_at t (17 * k + c)) c)

  unfoldable pub line_fault : ℕ → ℕ → List ℕ
  line_fault k n = tell "line " (k + 1) ++ (bytes ": " ++ line_cause k n)

  -- behind the headers: the first line that is none, or what follows the last
  unfoldable pub rest_fault : List ℕ
  rest_fault =
      let k = first_not (lined t) (rest_count t) head_lines in
      cond (ltb k all_lines) (line_fault k all_lines) (tell "line " (k + 1) ++ say ": the sheet goes on; " all_lines " lines are needed.\n")

  unfoldable pub broken_text : List ℕ
  broken_text = let k = first_not (lined t) head_lines 0 in cond (ltb k head_lines) (line_fault k least_lines) rest_fault
