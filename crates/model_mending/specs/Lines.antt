-- REFERENCE 12.1. Document 02, W14: a line of a sheet from the old exporter: 16 hex digits of either case, mixed too,
-- then at most one carriage return, then a newline. t is the bytes of a text; a byte past its end counts as 0, which is
-- no part of a line.
use Rattle.std.specs.Prelude.{ℕ, zero, suc, ◌+◌, Bool, ◌&&◌, cond, List, map, leb, eqb}
use Rattle.lists.specs.Every.{every}
use Rattle.model_texts.specs.Hex.{byte_at, digit_at, word_at}

-- 'A' to 'F' as 'a' to 'f'; any other byte as it is
unfoldable pub lowered : ℕ → ℕ
lowered b = cond (leb 65 b && leb b 70) (b + 32) b

unfoldable pub low : List ℕ → List ℕ
low t = map lowered t

module _ (t : List ℕ) where
  -- where the newline of a line that begins at p has to stand
  unfoldable pub end_at : ℕ → ℕ
  end_at p = cond (eqb (byte_at t (p + 16)) 13) (p + 17) (p + 16)

  -- a line from the place p on
  unfoldable pub is_old_line : ℕ → Bool
  is_old_line p = every (digit_at (low t)) 16 p && eqb (byte_at t (end_at p)) 10

  -- where the line k begins, counted from 0
  unfoldable pub line_at : ℕ → ℕ
  line_at zero = 0
  line_at (suc k) = end_at (line_at k) + 1

  -- whether the line k is one, its word, and its digits as they stand
  abbrev pub old_lined : ℕ → Bool
  old_lined k = is_old_line (line_at k)

  abbrev pub old_word : ℕ → ℕ
  old_word k = word_at (low t) (line_at k)

  abbrev pub old_digit : ℕ → ℕ → ℕ
  old_digit k j = byte_at t (line_at k + j)
