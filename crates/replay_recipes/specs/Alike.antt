-- Neighbours that hold the same.
use Rattle.std.specs.Prelude.{ℕ, ◌+◌, ◌≤◌, ◌<◌, List, ◌≡◌, get_or, Float}
use Rattle.std.proofs.Common.{arith, ap}
use Rattle.std.specs.Float.{nan, binary64}
use Rattle.std.specs.Float.Ieee.{to_bits}

module _ (word : ℕ → ℕ) where
  -- the places from `at` to before r hold the word of the place `at`
  abbrev pub AlikeTo : ℕ → ℕ → Type 0
  AlikeTo at r = (k : ℕ) → k < r → at ≤ k → word k ≡ word at

  -- .. and of n places the one at r, where there is one, does not
  pub record Alike (n at r : ℕ) : Type 0 where
    pub after : at < r
    pub within : r ≤ n
    pub each : AlikeTo at r
    pub stop : r < n → word r ≡ word at → ⊥

  pub alike-one : (at : ℕ) → AlikeTo at (at + 1)
  alike-one at k l m = ap word (omega arith)

abbrev pub word_in : List ℕ → ℕ → ℕ
word_in xs k = get_or xs k 0

-- the bits of a float
abbrev pub bits_in : List Float → ℕ → ℕ
bits_in xs k = to_bits binary64 (get_or xs k nan)
