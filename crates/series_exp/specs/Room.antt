-- What the functions of exp ask: lx and r the lengths of the operand and of the result. The m.. are the lengths of
-- buffers.
use Rattle.std.specs.Prelude.{ℕ, ◌+◌, ◌-◌, ◌≤◌, ◌<◌, List, ◌≡◌}
use Rattle.lists.specs.Four.{at}
use Rattle.model.specs.Header.{span}
use Rattle.shape_words.specs.InRow.{in_row}

-- the row k of the variable v in the work: the operand's rows lie from n up to e
pub record RowRoom (lx r : List ℕ) (v k n e mw mr : ℕ) : Type 0 where
  pub some : v < 4
  pub turn : k < at r v
  pub rows : span r (4 - v) v ≤ n
  pub ends : e ≡ n + span lx (4 - v) v
  pub room : e ≤ mw
  pub full : mr ≡ in_row r v

-- the sub-block of the variables from v on
pub record Room (lx r : List ℕ) (v n mx mw mr : ℕ) : Type 0 where
  pub within : v ≤ 4
  pub operand : span lx (4 - v) v ≤ mx
  pub rows : span r (4 - v) v ≤ n
  pub room : n + span lx (4 - v) v ≤ mw
  pub row : span r (4 - v) v ≤ mr
