-- What the functions ask. The m.. are the lengths of buffers.
use Rattle.std.specs.Prelude.{ℕ, ◌+◌, ◌-◌, ◌*◌, ◌≤◌, ◌<◌, List, ◌≡◌}
use Rattle.lists.specs.Four.{at}
use Rattle.model.specs.Header.{span, count}
use Rattle.shape_words.specs.Lengths.{Lengths}
use Rattle.blocks.specs.Rows.{Inner}
use Rattle.shape_words.specs.InRow.{in_row}
use Rattle.product_general.specs.Rows.{Strided}

-- ly and r the lengths of the divisor and of the result, sy and sr their strides
pub record Dividing (ly sy r sr : List ℕ) : Type 0 where
  pub strided : Strided r sr ly sy r sr
  pub inner : Inner r ly

-- the row k of the variable v: the rows before it, the divisor, the row
pub record Taking (ly r : List ℕ) (v k mb my mr : ℕ) : Type 0 where
  pub some : v < 4
  pub row : k < at r v
  pub before : mb ≡ k * in_row r v
  pub room : span ly (4 - v) v ≤ my
  pub full : mr ≡ in_row r v

-- the sub-block of the variables from v on: its c lies from p up to e, its result goes to q, the divisor lies from b up
-- to f
pub record Room (ly r : List ℕ) (v p e q b f mw mr : ℕ) : Type 0 where
  pub some : v < 4
  pub divisor : f ≡ b + count ly
  pub before : f ≤ q
  pub apart : q + span r (4 - v) v ≤ p
  pub ends : e ≡ p + span r (4 - v) v
  pub room : p + (5 - v) * count r ≤ mw
  pub row : count r ≤ mr

-- a row of the variable v has one place
pub record Single (ly r : List ℕ) (v : ℕ) : Type 0 where
  pub right : Lengths ly
  pub result : Lengths r
  pub inner : Inner r ly
  pub some : v < 4
  pub one : in_row r v ≡ 1

-- the sub-block of one such variable
pub record Line (ly r : List ℕ) (v p e q b f mw : ℕ) : Type 0 where
  pub single : Single ly r v
  pub divisor : f ≡ b + count ly
  pub before : f ≤ q
  pub apart : q + at r v ≤ p
  pub ends : e ≡ p + at r v
  pub room : e ≤ mw

-- the row k of it; the row that is gathered fills its buffer
pub record RowRoom (ly r : List ℕ) (v k p e q b f mw mr : ℕ) : Type 0 where
  pub some : v < 4
  pub turn : k < at r v
  pub divisor : f ≡ b + count ly
  pub before : f ≤ q
  pub apart : q + span r (4 - v) v ≤ p
  pub ends : e ≡ p + span r (4 - v) v
  pub room : e + in_row r v ≤ mw
  pub row : mr ≡ in_row r v
