-- REFERENCE 11.2. A number as people type it: digits, or digits, a point and digits; at most 15 significant digits, at
-- most 22 behind the point. It is read as the float nearest to it; any other text is refused.
use Rattle.std.specs.Prelude.{Some, None, ℕ, ◌+◌, ◌-◌, ◌*◌, ◌^◌, Bool, true, false, not, ◌&&◌, ◌||◌, cond, List, [], ◌∷◌, ◌++◌, leb, eqb, length}
use Rattle.std.specs.Float.{binary64}
use Rattle.std.specs.Float.Ieee.{round}
use Rattle.model_decimals.specs.Results.{Read}

-- what stands before the first point, whether there is one, and what stands behind it
unfoldable pub before : List ℕ → List ℕ
before [] = []
before (b ∷ t) = cond (eqb b 46) [] (b ∷ before t)

unfoldable pub has_point : List ℕ → Bool
has_point [] = false
has_point (b ∷ t) = eqb b 46 || has_point t

unfoldable pub behind : List ℕ → List ℕ
behind [] = []
behind (b ∷ t) = cond (eqb b 46) t (behind t)

abbrev pub is_digit : ℕ → Bool
is_digit b = leb 48 b && leb b 57

unfoldable pub all_digits : List ℕ → Bool
all_digits [] = true
all_digits (b ∷ t) = is_digit b && all_digits t

-- one at least
unfoldable pub some_digits : List ℕ → Bool
some_digits [] = false
some_digits (b ∷ t) = all_digits (b ∷ t)

-- without the zeros in front
unfoldable pub significant : List ℕ → List ℕ
significant [] = []
significant (b ∷ t) = cond (eqb b 48) (significant t) (b ∷ t)

-- n, then these digits behind it
unfoldable pub digits_value : ℕ → List ℕ → ℕ
digits_value n [] = n
digits_value n (b ∷ t) = digits_value (10 * n + (b - 48)) t

module _ (t : List ℕ) where
  -- all its digits
  abbrev pub digits_typed : List ℕ
  digits_typed = before t ++ behind t

  unfoldable pub is_typed : Bool
  is_typed =
      (some_digits (before t) && (not (has_point t) || some_digits (behind t)))
      && (leb (length (significant digits_typed)) 15 && leb (length (behind t)) 22)

  unfoldable pub read_text : Read
  read_text = cond is_typed (Some (round binary64 false (digits_value 0 digits_typed) (10 ^ length (behind t)))) None
