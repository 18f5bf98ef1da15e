-- REFERENCE 11.1. The value of a float as a fraction: how many of the smallest floats, 2 ^ -1074 each, it is.
use Rattle.std.specs.Prelude.{ℕ, ◌+◌, ◌-◌, ◌*◌, ◌%◌, ◌^◌, Bool, cond, leb, eqb}
use Rattle.model_texts.specs.Number.{exponent_of}

-- of the exponent's field x and the digits' field t: the binary digits, a leading one among them unless x is 0
abbrev pub binary_at : ℕ → ℕ → ℕ
binary_at x t = cond (eqb x 0) 0 (2 ^ 52) + t

-- the last of them counts 2 ^ (x - 1) smallest floats; where x is 0, one
abbrev pub units_at : ℕ → ℕ → ℕ
units_at x t = binary_at x t * 2 ^ (x - 1)

-- w the word of a float
module _ (w : ℕ) where
  abbrev pub minus_of : Bool
  minus_of = leb (2 ^ 63) w

  unfoldable pub units_of : ℕ
  units_of = units_at (exponent_of w) (w % 2 ^ 52)
