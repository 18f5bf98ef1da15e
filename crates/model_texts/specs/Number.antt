-- REFERENCE 9.1. A float in a report: a whole number of size at most 2 ^ 53 in decimal, -0 as "-0"; any other as "0x"
-- and the 16 hex digits of its word.
use Rattle.std.specs.Prelude.{ℕ, ◌+◌, ◌-◌, ◌*◌, ◌/◌, ◌%◌, ◌^◌, Bool, ◌&&◌, ◌||◌, cond, List, ◌++◌, leb, eqb, Float}
use Rattle.std.specs.Float.Ieee.{to_bits}
use Rattle.std.specs.Float.{binary64}
use Rattle.lists.specs.Bytes.{bytes}
use Rattle.lists.specs.Table.{table}
use Rattle.model_texts.specs.Hex.{hex_digit}
use Rattle.model_texts.specs.Printed.{decimal}
use Rattle.model_texts.specs.Report.{when}

-- w the word of a float
module _ (w : ℕ) where
  abbrev pub exponent_of : ℕ
  exponent_of = w / 2 ^ 52 % 2 ^ 11

  -- the digits, with the leading one; and how many of them stand behind the point
  abbrev pub digits_of : ℕ
  digits_of = 2 ^ 52 + w % 2 ^ 52

  abbrev pub behind_point : ℕ
  behind_point = 1075 - exponent_of

  abbrev pub is_zero : Bool
  is_zero = eqb (w % 2 ^ 63) 0

  -- 1 to below 2 ^ 53, nothing behind the point
  unfoldable pub is_scaled : Bool
  is_scaled = (leb 1023 exponent_of && leb exponent_of 1075) && eqb (digits_of % 2 ^ behind_point) 0

  -- 2 ^ 53
  abbrev pub is_top : Bool
  is_top = eqb (w % 2 ^ 63) (1076 * 2 ^ 52)

  unfoldable pub is_whole_word : Bool
  is_whole_word = is_zero || (is_top || is_scaled)

  -- of a whole number
  unfoldable pub size_of : ℕ
  size_of = cond is_zero 0 (cond is_top (2 ^ 53) (digits_of / 2 ^ behind_point))

  unfoldable pub signed_text : ℕ → List ℕ
  signed_text n = when (leb (2 ^ 63) w) (bytes "-") ++ decimal n

  unfoldable pub hex_text : List ℕ
  hex_text = bytes "0x" ++ table 16 (hex_digit w)

  unfoldable pub word_text : List ℕ
  word_text = cond is_whole_word (signed_text size_of) hex_text

unfoldable pub number_text : Float → List ℕ
number_text x = word_text (to_bits binary64 x)
