-- REFERENCE 11.1. A float for people: the decimal with nine digits behind the point that is nearest to it, zeros at the
-- end dropped, and a mark where that is not the float itself.
use Rattle.std.specs.Prelude.{ℕ, zero, suc, ◌*◌, ◌/◌, ◌%◌, ◌^◌, Bool, not, ◌&&◌, cond, List, [], ◌∷◌, ◌++◌, ltb, eqb, Float}
use Rattle.std.specs.Float.Ieee.{to_bits}
use Rattle.std.specs.Float.{binary64}
use Rattle.std.specs.Float.Ieee.Nearest.{closest}
use Rattle.lists.specs.Bytes.{bytes}
use Rattle.model_texts.specs.Number.{exponent_of, hex_text}
use Rattle.model_texts.specs.Printed.{last_digit, decimal}
use Rattle.model_texts.specs.Report.{when}
use Rattle.model_decimals.specs.Value.{minus_of, units_of}

-- the fraction a / c in billionths, to the nearest whole number, a tie to the even one; and whether that is equal to it
abbrev pub billionths : ℕ → ℕ → ℕ
billionths a c = closest (a * 1000000000) c

abbrev pub is_exact : ℕ → ℕ → Bool
is_exact a c = eqb (billionths a c * c) (a * 1000000000)

-- the last k digits of n; and the same without the zeros at their end
unfoldable pub places : ℕ → ℕ → List ℕ
places zero n = []
places (suc k) n = places k (n / 10) ++ (last_digit n ∷ [])

unfoldable pub trimmed_places : ℕ → ℕ → List ℕ
trimmed_places zero n = []
trimmed_places (suc k) n = cond (eqb (n % 10) 0) (trimmed_places k (n / 10)) (places (suc k) n)

-- n billionths, n below 10 ^ 9: a point and digits, or nothing at all
unfoldable pub point_text : ℕ → List ℕ
point_text n = cond (eqb n 0) [] (46 ∷ trimmed_places 9 n)

-- m billionths with a sign. Where they are not the very number: ~ in front; and where they are none, that the number is
-- closer to 0 than one of them
unfoldable pub rounded_text : Bool → ℕ → Bool → List ℕ
rounded_text minus m exact =
    cond (not exact && eqb m 0)
    (cond minus (bytes ">-0.000000001") (bytes "<0.000000001"))
    (when (not exact) (bytes "~") ++ (when minus (bytes "-") ++ (decimal (m / 1000000000) ++ point_text (m % 1000000000))))

-- the number a / c with a sign
abbrev pub value_text : Bool → ℕ → ℕ → List ℕ
value_text minus a c = rounded_text minus (billionths a c) (is_exact a c)

-- w the word of a float
module _ (w : ℕ) where
  unfoldable pub endless_text : List ℕ
  endless_text = cond (eqb (w % 2 ^ 52) 0) (when (minus_of w) (bytes "-") ++ bytes "inf") (bytes "nan")

  -- of size 2 ^ 63 and more: the word, and that it is one
  unfoldable pub bits_text : List ℕ
  bits_text = bytes "bits " ++ hex_text w

  -- an exponent's field of 1086 is 2 ^ 63
  unfoldable pub float_word_text : List ℕ
  float_word_text =
      cond (eqb (exponent_of w) 2047) endless_text (cond (ltb (exponent_of w) 1086) (value_text (minus_of w) (units_of w) (2 ^ 1074)) bits_text)

unfoldable pub float_text : Float → List ℕ
float_text x = float_word_text (to_bits binary64 x)
