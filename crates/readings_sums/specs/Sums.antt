-- What a loop over coefficients carries.
use Rattle.std.specs.Prelude.{ℕ, List, get_or, Float}
use Rattle.std.specs.Float.{nan, binary64}
use Rattle.std.specs.Float.Ieee.{add}

-- what the loop of a sum does with each place
abbrev pub plus_at : List Float → ℕ → Float → Float
plus_at a i acc = add binary64 acc (get_or a i nan)
