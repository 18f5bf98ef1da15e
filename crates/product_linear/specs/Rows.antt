-- What becomes of a row of places under a constant or a linear factor, and what the loops ask.
use Rattle.std.specs.Prelude.{ℕ, ◌+◌, ◌-◌, ◌*◌, ◌/◌, ◌%◌, ◌≤◌, ◌<◌, List, cond, ◌≡◌, ltb, get_or, drop, Float}
use Rattle.std.specs.Float.{nan, binary64}
use Rattle.std.specs.Float.Ieee.{add, mul}
use Rattle.model.specs.Refusals.{zero_f}

-- what a row of places becomes, where it is shifted up by s
abbrev pub raised_row : Float → ℕ → List Float → ℕ → Float
raised_row m s a k = cond (ltb k s) zero_f (mul binary64 (get_or a (k - s) nan) m)

-- rows of `width` places that become rows of `step` places, by place
abbrev pub raised_flat : Float → ℕ → ℕ → ℕ → List Float → ℕ → Float
raised_flat m s width step a p = raised_row m s (drop (p / step * width) a) (p % step)

-- under a linear factor, c and m: what is shifted there added to +0.0, then c times the row, as far as its `width`
-- places reach. First the three parts of such a row: up to s, where +0.0 is shifted to; up to the width, where a is
-- shifted and b stays; past it
abbrev pub lined_first : Float → List Float → ℕ → Float
lined_first c a k = add binary64 (add binary64 zero_f zero_f) (mul binary64 c (get_or a k nan))

abbrev pub lined_middle : Float → List Float → Float → List Float → ℕ → Float
lined_middle m a c b k = add binary64 (add binary64 zero_f (mul binary64 (get_or a k nan) m)) (mul binary64 c (get_or b k nan))

abbrev pub lined_last : Float → List Float → ℕ → Float
lined_last m a k = add binary64 zero_f (mul binary64 (get_or a k nan) m)

abbrev pub lined_row : Float → Float → ℕ → ℕ → List Float → ℕ → Float
lined_row c m s width a k =
    cond (ltb k width) (add binary64 (add binary64 zero_f (raised_row m s a k)) (mul binary64 c (get_or a k nan))) (add binary64 zero_f (raised_row m s a k))

abbrev pub lined_flat : Float → Float → ℕ → ℕ → ℕ → List Float → ℕ → Float
lined_flat c m s width step a p = lined_row c m s width (drop (p / step * width) a) (p % step)

-- a row of w places that becomes one of n
pub record LinedRow (s w n : ℕ) : Type 0 where
  pub small : s ≤ w
  pub reach : w ≤ n
  pub most : n ≤ w + s

-- as many such rows as there are in both buffers
pub record Rows (s width step ma mt : ℕ) : Type 0 where
  pub turns : ℕ
  pub full : mt ≡ turns * step
  pub room : turns * width ≤ ma
  pub small : s ≤ step
  pub most : step ≤ width + s
  pub pos : 0 < step
