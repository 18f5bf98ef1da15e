-- What `derivative`, `taylor_expansion_of_coeff` and `shift_down` owe of their headers (document 01, 'Announced limits
-- and lengths', the three shifts): limits less n in the variable, no length above max(1, a - n) there and a elsewhere,
-- and as many coefficients as the true header says; past the stored length too.
use Rattle.std.specs.Prelude.{◌≡◌, List, cond, ℕ, ◌+◌, leb, eqb, Float}
use Rattle.std.proofs.Math.Path.{refl}
use Rattle.std.proofs.Common.{le_refl}
use Rattle.std.specs.Float.Ieee.{add}
use Rattle.std.specs.Float.{binary64}
use Rattle.lists.specs.Test.{of-both}
use Rattle.lists.specs.Table.{length-table}
use Rattle.lists.specs.Four.{at}
use Rattle.model.specs.declared.Header.{Header}
use Rattle.model.specs.declared.Family.TheVariants.{Shift}
use Rattle.model.specs.Header.{len, stored, no_header}
use Rattle.model.specs.Announced.{announced}
use Rattle.model.specs.Refusals.{zero_f}
use Rattle.model.specs.Poly.{Poly, block_of}
use Rattle.model.specs.Shifts.{in_row, by_index, row_sum, rows_from, derivative_poly, expansion_poly, shift_down_poly}
use Rattle.shape_words.specs.Rules.{Regular, ruled-at, none-regular}
use Rattle.shape.specs.Announced.{announced-regular}
use Rattle.shape.specs.Keeps.{Keeps}
use Rattle.laws_keeps.specs.Sits.{Sits}
use Rattle.laws_keeps.specs.Keeps.{sits-keeps}
use Rattle.laws_keeps.specs.ProductKeeps.{constant-sits}

-- each place of a header's lengths, whatever stands there
pub by_index-sits : {h : Header} → Regular h → (f : List ℕ → Float) → Sits h.lengths (by_index h f)
by_index-sits {h} r f = record { ns = r.ns; lo = λ k l. (ruled-at r.rules k l).pos; hi = λ k l. le_refl _; full = length-table _ (stored h) }

module _ (v n : ℕ) (p : Poly) (g : Regular p.head) where
  abbrev pub shift_head : Header
  shift_head = announced (Shift v n) p.head no_header

  pub shift-regular : Regular shift_head
  shift-regular = announced-regular (Shift v n) g none-regular

  rows-keep : (f : ℕ → Float → Float) → Keeps shift_head (rows_from v n p f)
  unfolding rows_from
  rows-keep f =
      let s = by_index-sits shift-regular (λ i. f (at i v) (in_row (block_of p) i v (at i v + n))) in
      sits-keeps shift-regular (of-both (Sits shift_head.lengths) (leb (len p.head v) n) (constant-sits zero_f s) s)

  pub derivative-keeps : Keeps shift_head (derivative_poly v n p)
  unfolding derivative_poly
  derivative-keeps = rows-keep _

  pub expansion-keeps : Keeps shift_head (expansion_poly v n p)
  unfolding expansion_poly
  expansion-keeps = rows-keep _

  -- one place of `shift_down`, as crate model has it
  abbrev pub shifted_at : List ℕ → Float
  shifted_at i =
      cond (leb (len p.head v) (n + 1)) (row_sum v n p (len p.head v) i)
      (cond (eqb (at i v) 0) (add binary64 (in_row (block_of p) i v n) (row_sum v n p n i))
      (in_row (block_of p) i v (at i v + n)))

  pub shift_down-keeps : Keeps shift_head (shift_down_poly v n p)
  unfolding shift_down_poly
  shift_down-keeps = sits-keeps shift-regular (by_index-sits shift-regular shifted_at)

  -- of `shift_down` the true header is the announced one
  pub shift_down-head : (shift_down_poly v n p).head ≡ shift_head
  unfolding shift_down_poly
  shift_down-head = refl
