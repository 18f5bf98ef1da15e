-- REFERENCE 7.1. Document 01, the program `recipe`: lines of 16 lower-case hex digits, each ended by a newline. t is
-- the bytes of a text; a byte past its end counts as 0, which is neither digit nor newline.
use Rattle.std.specs.Prelude.{ℕ, ◌+◌, ◌-◌, ◌*◌, ◌/◌, ◌%◌, ◌^◌, List, [], ◌∷◌, ◌++◌, Bool, ◌&&◌, ◌||◌, cond, ltb, leb, eqb, get_or}
use Rattle.lists.specs.Every.{every}
use Rattle.lists.specs.Table.{table}
use Rattle.lists.specs.Walk.{walk}

-- '0' to '9', 'a' to 'f'
unfoldable pub is_digit : ℕ → Bool
is_digit b = (leb 48 b && leb b 57) || (leb 97 b && leb b 102)

-- what a digit says, 0 for any other byte
unfoldable pub digit_of : ℕ → ℕ
digit_of b = cond (leb 48 b && leb b 57) (b - 48) (cond (leb 97 b && leb b 102) (b - 87) 0)

-- the digit that says d
unfoldable pub digit_for : ℕ → ℕ
digit_for d = cond (ltb d 10) (48 + d) (87 + d)

module _ (t : List ℕ) where
  abbrev pub byte_at : ℕ → ℕ
  byte_at p = get_or t p 0

  abbrev pub digit_at : ℕ → Bool
  digit_at p = is_digit (byte_at p)

  -- a line from the place p on
  unfoldable pub is_line : ℕ → Bool
  is_line p = every digit_at 16 p && eqb (byte_at (p + 16)) 10

  -- one digit more at the low end
  abbrev pub push_digit : ℕ → ℕ → ℕ
  push_digit p w = 16 * w + digit_of (byte_at p)

  -- the word of 16 digits from the place p on, most significant first
  unfoldable pub word_at : ℕ → ℕ
  word_at p = walk push_digit 16 p 0

-- digit number k of a word, most significant first
abbrev pub hex_digit : ℕ → ℕ → ℕ
hex_digit w k = digit_for (w / 2 ^ (60 - 4 * k) % 16)

-- the line of a word
unfoldable pub hex_line : ℕ → List ℕ
hex_line w = table 16 (hex_digit w) ++ (10 ∷ [])

unfoldable pub hex_lines : List ℕ → List ℕ
hex_lines [] = []
hex_lines (w ∷ ws) = hex_line w ++ hex_lines ws
