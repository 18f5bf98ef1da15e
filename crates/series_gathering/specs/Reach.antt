-- What gathering a row asks: lx and r the lengths of the operand and of the result, sx and sr their strides. The m..
-- are the lengths of buffers.
use Rattle.std.specs.Prelude.{ℕ, ◌+◌, ◌-◌, ◌*◌, ◌≤◌, ◌<◌, List, Bool, true, false, ◌≡◌}
use Rattle.lists.specs.Four.{at}
use Rattle.model.specs.Header.{span}
use Rattle.blocks.specs.Rows.{Inner}
use Rattle.shape_words.specs.InRow.{in_row}
use Rattle.product_general.specs.Rows.{Strided}

pub record Shaped (lx sx r sr : List ℕ) : Type 0 where
  pub strided : Strided lx sx r sr r sr
  pub inner : Inner r lx

-- the number of the left row at the turn j: j, or, backwards, k - j; the right row has the number k less that
abbrev pub left_of : Bool → ℕ → ℕ → ℕ
left_of false k j = j
left_of true k j = k - j

-- the turns from a up to b: every right row is one before the row k, and every left row one of m
pub record Reach (back : Bool) (k m a b : ℕ) : Type 0 where
  pub turns : b ≤ k + 1
  pub some : (j : ℕ) → a ≤ j → j < b → 1 ≤ left_of back k j
  pub most : (j : ℕ) → a ≤ j → j < b → left_of back k j ≤ k
  pub within : (j : ℕ) → a ≤ j → j < b → left_of back k j < m

-- the row k of the variable v: the operand's rows, the rows before it, the row
pub record Gathering (lx r : List ℕ) (v k mx md mr : ℕ) : Type 0 where
  pub some : v < 4
  pub turn : k < at r v
  pub room : span lx (4 - v) v ≤ mx
  pub before : md ≡ k * in_row r v
  pub full : mr ≡ in_row r v
