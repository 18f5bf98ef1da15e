-- What the functions of the quotient ask. The m.. are the lengths of buffers.
use Rattle.std.specs.Prelude.{ℕ, ◌+◌, ◌-◌, ◌*◌, ◌≤◌, ◌<◌, List, cond, ◌≡◌, eqb, length, get_or, take, Float}
use Rattle.std.specs.Float.{nan}
use Rattle.std.specs.Float.Ieee.{eq}
use Rattle.lists.specs.Table.{table}
use Rattle.lists.specs.Part.{part}
use Rattle.lists.specs.Four.{at}
use Rattle.model.specs.Header.{count}
use Rattle.model.specs.Limits.{cut_to}
use Rattle.model.specs.Poly.{block}
use Rattle.model.specs.Readings.{one_f}
use Rattle.model.specs.Quotient.{quotient_shape, divided_at, recurred}
use Rattle.shape_words.specs.Lengths.{Lengths}
use Rattle.blocks.specs.Rows.{Inner}
use Rattle.shape_words.specs.InRow.{in_row}

-- the dividend, which lies at the front of the work, below q; lx its lengths
pub record First (lx r : List ℕ) (nx q : ℕ) : Type 0 where
  pub left : Lengths lx
  pub inner : Inner r lx
  pub full : nx ≡ count lx
  pub below : nx ≤ q

-- its row k
pub record Adding (lx r : List ℕ) (k mx mr : ℕ) : Type 0 where
  pub left : Lengths lx
  pub result : Lengths r
  pub inner : Inner r lx
  pub room : count lx ≤ mx
  pub turn : k < at r 0
  pub row : mr ≡ in_row r 0

-- the dividend and the divisor, which lie in the work from 0 and from the count of the result on
pub record Recurring (lx ly r : List ℕ) (nx ny mw mo : ℕ) : Type 0 where
  pub left : Lengths lx
  pub right : Lengths ly
  pub result : Lengths r
  pub inner_x : Inner r lx
  pub inner_y : Inner r ly
  pub full_x : nx ≡ count lx
  pub full_y : ny ≡ count ly
  pub work : mw ≡ 8 * count r
  pub out : mo ≡ count r

-- two operands that lie where the caller has them; r the announced lengths
pub record Divides (la lb limits r : List ℕ) (ma mb mo mw : ℕ) : Type 0 where
  pub left : Lengths la
  pub right : Lengths lb
  pub positive : (k : ℕ) → k < 4 → 1 ≤ at limits k
  pub most : (k : ℕ) → k < 4 → at limits k ≤ 64
  pub shape : r ≡ quotient_shape limits (cut_to limits la) (cut_to limits lb)
  pub full_a : ma ≡ count la
  pub full_b : mb ≡ count lb
  pub out : mo ≡ count r
  pub work : mw ≡ 8 * count r

-- the quotient of what lies in the work w: the dividend, na places, at its front, the divisor, nb places, from n on
unfoldable pub loaded_quotient : List ℕ → ℕ → List ℕ → ℕ → List ℕ → ℕ → List Float → List Float
loaded_quotient ca na cb nb r n w =
    let x = take na w in
    let c = get_or w n nan in
    cond (eqb nb 1) (cond (eq c one_f) x (table (length x) (divided_at c x))) (recurred (block ca x) (block cb (part n (n + nb) w)) r)
