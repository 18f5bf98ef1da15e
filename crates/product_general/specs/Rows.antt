-- What the functions that go through the rows ask and make: lx, ly and r the lengths of the left, the right and the
-- result; sx, sy and sr their strides.
use Rattle.std.specs.Prelude.{ℕ, ◌+◌, ◌-◌, ◌≤◌, ◌<◌, List, true, false, ◌≡◌, get_or, Float}
use Rattle.std.specs.Float.{nan}
use Rattle.lists.specs.Four.{at}
use Rattle.lists.specs.Table.{table}
use Rattle.lists.specs.Walk.{walk}
use Rattle.model.specs.Header.{span, count}
use Rattle.model.specs.Places.{strides, index}
use Rattle.model.specs.General.{lo, steps, alone, product_at}
use Rattle.shape_words.specs.Lengths.{Lengths}
use Rattle.shape_words.specs.InRow.{in_row}
use Rattle.product_general.specs.Product.{step_at}

-- nx, ny and nr are the lengths of the buffers
pub record Multiplying (lx ly r : List ℕ) (nx ny nr : ℕ) : Type 0 where
  pub left : Lengths lx
  pub right : Lengths ly
  pub result : Lengths r
  pub room_x : count lx ≤ nx
  pub room_y : count ly ≤ ny
  pub full : nr ≡ count r

pub record Strided (lx sx ly sy r sr : List ℕ) : Type 0 where
  pub left : Lengths lx
  pub right : Lengths ly
  pub result : Lengths r
  pub by_x : sx ≡ strides lx
  pub by_y : sy ≡ strides ly
  pub by_r : sr ≡ strides r

-- the sub-blocks of the variables from v on
pub record Rowing (lx ly r : List ℕ) (v nx ny nr : ℕ) : Type 0 where
  pub within : v ≤ 4
  pub room_x : span lx (4 - v) v ≤ nx
  pub room_y : span ly (4 - v) v ≤ ny
  pub full : nr ≡ span r (4 - v) v

-- more than one of them is long, or the first is not
pub record Several (r : List ℕ) (v : ℕ) : Type 0 where
  pub some : v < 4
  pub more : alone r (4 - (v + 1)) v ≡ false

-- the variable after v is the last long one
pub record TwoLong (r : List ℕ) (v : ℕ) : Type 0 where
  pub next : v + 1 < 4
  pub last : alone r (4 - (v + 1 + 1)) (v + 1) ≡ true

-- the row k of the variable v of the result
pub record Pairing (lx ly r : List ℕ) (v k nx ny nr : ℕ) : Type 0 where
  pub some : v < 4
  pub row : k < at r v
  pub room_x : span lx (4 - v) v ≤ nx
  pub room_y : span ly (4 - v) v ≤ ny
  pub full : nr ≡ in_row r v

-- a place of the sub-block, from what it holds
abbrev pub place_of : List ℕ → List ℕ → List ℕ → ℕ → List Float → List Float → List Float → ℕ → Float
place_of lx ly r v xs ys old p = product_at lx ly r (index r p) (4 - v) v xs ys (get_or old p nan)

unfoldable pub rows_of : List ℕ → List ℕ → List ℕ → ℕ → List Float → List Float → List Float → List Float
rows_of lx ly r v xs ys old = table (span r (4 - v) v) (place_of lx ly r v xs ys old)

-- the row k of it, tx and ty the numbers of places in a row of the left and of the right
unfoldable pub pairs_of : List ℕ → List ℕ → List ℕ → ℕ → ℕ → ℕ → ℕ → List Float → List Float → List Float → List Float
pairs_of lx ly r v k tx ty xs ys old =
    table (in_row r v) (λ q. walk (step_at lx ly r (index r q) v k tx ty xs ys) (steps (at lx v) (at ly v) k) (lo (at ly v) k) (get_or old q nan))
