-- REFERENCE 4.3. Document 01, port order 4 and 'What must change shape': `extract_linear` answers constant c, factor m
-- and a variable, the first that fits, as a small record of two floats and a variable with a yes or no, all 0 for no.
use Rattle.std.specs.Prelude.{ℕ, zero, suc, List, Bool, true, false, ◌&&◌, ◌||◌, cond, leb, eqb, get_or, Float}
use Rattle.std.specs.Float.{nan}
use Rattle.std.specs.Float.Ieee.{eq}
use Rattle.lists.specs.Four.{at}
use Rattle.model.specs.declared.Linear.{Linear}
use Rattle.model.specs.Header.{count}
use Rattle.model.specs.Places.{strides}
use Rattle.model.specs.Refusals.{zero_f}
use Rattle.model.specs.Poly.{Block}

abbrev pub no_linear : Linear
no_linear = record { yes = false; c = zero_f; m = zero_f; variable = 0 }

-- a place that a linear polynomial may fill, or that holds a zero: the constant's, and the one at s
abbrev pub linear_place : List Float → ℕ → ℕ → Bool
linear_place a s k = (eqb k 0 || eqb k s) || eq (get_or a k nan) zero_f

-- all of the first n places are such
unfoldable pub zeros_but : List Float → ℕ → ℕ → Bool
zeros_but a s zero = true
zeros_but a s (suc n) = zeros_but a s n && linear_place a s n

-- where row 1 of v begins
abbrev pub row_one : Block → ℕ → ℕ
row_one b v = at (strides b.lengths) v

-- whether b is linear in v: two rows at least, and nothing but the first place of row 0 and of row 1
unfoldable pub linear_in : Block → ℕ → Bool
linear_in b v = leb 2 (at b.lengths v) && zeros_but b.places (row_one b v) (count b.lengths)

unfoldable pub line_of : Block → ℕ → Linear
line_of b v = record { yes = true; c = get_or b.places 0 nan; m = get_or b.places (row_one b v) nan; variable = v }

-- the first of n variables, from v on, that fits
unfoldable pub linear_from : Block → ℕ → ℕ → Linear
linear_from b zero v = no_linear
linear_from b (suc n) v = cond (linear_in b v) (line_of b v) (linear_from b n (suc v))

abbrev pub linear : Block → Linear
linear b = linear_from b 4 0
