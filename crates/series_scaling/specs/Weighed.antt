-- Rows times their numbers, which are floats.
use Rattle.std.specs.Prelude.{ℕ, ◌-◌, ◌*◌, ◌/◌, ◌^◌, ◌≤◌, ◌<◌, List, get_or, T, pos, Float}
use Rattle.std.proofs.Common.{arith, div-lt_iff_lt-mul, le→leb}
use Rattle.std.specs.Float.{nan, binary64}
use Rattle.std.specs.Float.Ieee.{mul, in_float}
use Rattle.model.specs.Constructed.{whole_f}

-- a place times the number of its row, t places to a row
abbrev pub weighed_at : ℕ → List Float → ℕ → Float
weighed_at t xs i = mul binary64 (get_or xs i nan) (whole_f (i / t))

-- a number below 64 is a float
pub small_float : {n : ℕ} → n < 64 → T (in_float binary64 (pos n))
unfolding in_float
small_float {n} h = le→leb n (2 ^ 53) (omega arith)

-- and so is the number of a row
pub small_row : {i t n : ℕ} → 0 < t → n ≤ 64 * t → i < n → i / t < 64
small_row {i} {t} {n} p h l = (div-lt_iff_lt-mul p).1 (omega arith)
