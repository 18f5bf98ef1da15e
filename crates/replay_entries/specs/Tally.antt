-- Counts of places from one end on.
use Rattle.std.specs.Prelude.{ℕ, ◌-◌, ◌≤◌, ◌<◌, List, Bool, true, false, ◌≡◌, eqb, length, get_or, Float}
use Rattle.std.specs.Float.{nan, binary64}
use Rattle.std.specs.Float.Ieee.{to_bits}

-- r of n places pass a test, from 0 on: each below r does, and the one at r, where there is one, does not
pub record Leads (passes : ℕ → Bool) (n r : ℕ) : Type 0 where
  pub within : r ≤ n
  pub each : (k : ℕ) → k < r → passes k ≡ true
  pub stop : r < n → passes r ≡ false

-- the place k, from the front, holds +0.0
abbrev pub clear_at : List Float → ℕ → Bool
clear_at xs k = eqb (to_bits binary64 (get_or xs k nan)) 0

-- the place k, from the back, holds the sentinel
abbrev pub untouched_at : List Float → ℕ → Bool
untouched_at xs k = eqb (to_bits binary64 (get_or xs (length xs - 1 - k) nan)) 0x3ff0000000000001
