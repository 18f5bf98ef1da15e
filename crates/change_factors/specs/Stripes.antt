-- What the rows of every part ask. The m.. are the lengths of buffers.
use Rattle.std.specs.Prelude.{ℕ, ◌+◌, ◌*◌, ◌%◌, ◌≤◌, ◌<◌, List, ◌≡◌, length, get_or, Float}
use Rattle.std.specs.Float.{nan}

-- one row of every part: from skip + first on in the parts of `width` places, from `first` on in those of `step` places
pub record Stripes (s width step skip first ma mt : ℕ) : Type 0 where
  pub turns : ℕ
  pub full : mt ≡ turns * step
  pub room : turns * width ≤ ma
  pub row : first + s ≤ step
  pub past : skip + first + s ≤ width
  pub pos : 0 < s

-- that row was written by place, and what lies before it in each part stayed
pub record Striped (first s step : ℕ) (g : ℕ → Float) (d out : List Float) : Type 0 where
  pub len : length out ≡ length d
  pub new : (p : ℕ) → p < length d → first ≤ p % step → p % step < first + s → get_or out p nan ≡ g p
  pub old : (p : ℕ) → p < length d → p % step < first → get_or out p nan ≡ get_or d p nan

-- parts of n + rows rows that become parts of `rows` rows
pub record Scaling (n s width step ma mt : ℕ) : Type 0 where
  pub turns : ℕ
  pub rows : ℕ
  pub full : mt ≡ turns * step
  pub room : turns * width ≤ ma
  pub small : n + rows ≤ 64
  pub some : 0 < rows
  pub low : s ≤ 16777216
  pub pos : 0 < s
  pub is_step : step ≡ rows * s
  pub is_width : width ≡ n * s + rows * s
