-- REFERENCE 4.12, 4.13. Document 01, port order 7: `derivative`, `taylor_expansion_of_coeff`, `shift_down` by n in the
-- variable v. Limits are less n in v, lengths max(1, a - n).
-- Running factors as the source has them: the quotient is rounded first, then multiplied; n! by ascending products.
-- Refusals 1, 2, 3, 4, 5.
use Rattle.std.specs.Prelude.{ℕ, ◌+◌, List, [], ◌∷◌, cond, leb, eqb, length, set, Float}
use Rattle.std.specs.Float.Ieee.{add, mul, div}
use Rattle.std.specs.Float.{binary64}
use Rattle.lists.specs.Table.{table}
use Rattle.lists.specs.Walk.{walk}
use Rattle.lists.specs.Four.{at}
use Rattle.model.specs.declared.Header.{Header}
use Rattle.model.specs.declared.Refusal.{Refusal}
use Rattle.model.specs.Results.{Answer}
use Rattle.model.specs.declared.Family.TheVariants.{Shift}
use Rattle.model.specs.Header.{len, stored, ones, no_header}
use Rattle.model.specs.Places.{index}
use Rattle.model.specs.Announced.{announced}
use Rattle.model.specs.Refusals.{zero_f}
use Rattle.model.specs.Gates.{in_gate, announced_one}
use Rattle.model.specs.Poly.{Poly, Block, block, block_of, poly_of, held, read_at}
use Rattle.model.specs.Answers.{answered, out_after}
use Rattle.model.specs.Readings.{one_f}
use Rattle.model.specs.Constructed.{whole_f}

-- the row j of v at an index
abbrev pub in_row : Block → List ℕ → ℕ → ℕ → Float
in_row b i v j = read_at b (set i v j)

-- each place of the announced lengths from its index
abbrev pub by_index : Header → (List ℕ → Float) → Block
by_index h f = block h.lengths (table (stored h) (λ p. f (index h.lengths p)))

module _ (v n : ℕ) (p : Poly) where
  abbrev shifted_head : Header
  shifted_head = announced (Shift v n) p.head no_header

  -- the rows from n on, the row n + k by the function of k; past the stored length a zero with all lengths 1
  unfoldable pub rows_from : (ℕ → Float → Float) → Poly
  rows_from f =
      poly_of shifted_head
      (cond (leb (len p.head v) n)
      (block ones (zero_f ∷ []))
      (by_index shifted_head (λ i. f (at i v) (in_row (block_of p) i v (at i v + n)))))

  -- n!, then times (n + j + 1) / (j + 1) for each row j before
  unfoldable pub derivative_factor : ℕ → Float
  derivative_factor k =
      walk (λ j acc. mul binary64 acc (div binary64 (whole_f (n + j + 1)) (whole_f (j + 1)))) k 0 (walk (λ i acc. mul binary64 acc (whole_f i)) n 1 one_f)

  unfoldable pub derivative_poly : Poly
  derivative_poly = rows_from (λ k x. mul binary64 x (derivative_factor k))

  -- times (n + j) / j for each row j from 1 on; row 0 is left as it is
  unfoldable pub coefficient_factor : ℕ → Float
  coefficient_factor k = walk (λ j acc. mul binary64 acc (div binary64 (whole_f (n + j)) (whole_f j))) k 1 one_f

  unfoldable pub expansion_poly : Poly
  expansion_poly = rows_from (λ k x. cond (eqb k 0) x (mul binary64 x (coefficient_factor k)))

  -- the sum of the first m rows at an index, from +0.0 upwards
  unfoldable pub row_sum : ℕ → List ℕ → Float
  row_sum m i = walk (λ j acc. add binary64 acc (in_row (block_of p) i v j)) m 0 zero_f

  -- where no row is past n all rows are summed; else row n plus the sum of those before it, and the rows after it
  unfoldable pub shift_down_poly : Poly
  shift_down_poly =
      poly_of shifted_head
      (by_index shifted_head
      (λ i. cond (leb (len p.head v) (n + 1)) (row_sum (len p.head v) i)
      (cond (eqb (at i v) 0) (add binary64 (in_row (block_of p) i v n) (row_sum n i))
      (in_row (block_of p) i v (at i v + n)))))

-- w the header word, a the coefficients, out the buffer as it came
module _ (w : ℕ) (a : List Float) (v n : ℕ) (out : List Float) where
  abbrev pub shift_gate : Refusal
  shift_gate = in_gate (Shift v n) v n w (length a) (length out)

  unfoldable pub derivative_answer : Answer
  derivative_answer = answered shift_gate (derivative_poly v n (held w a))

  unfoldable pub derivative_out : List Float
  derivative_out = out_after shift_gate (announced_one (Shift v n) w) (derivative_poly v n (held w a)) out

  unfoldable pub expansion_answer : Answer
  expansion_answer = answered shift_gate (expansion_poly v n (held w a))

  unfoldable pub expansion_out : List Float
  expansion_out = out_after shift_gate (announced_one (Shift v n) w) (expansion_poly v n (held w a)) out

  unfoldable pub shift_down_answer : Answer
  shift_down_answer = answered shift_gate (shift_down_poly v n (held w a))

  unfoldable pub shift_down_out : List Float
  shift_down_out = out_after shift_gate (announced_one (Shift v n) w) (shift_down_poly v n (held w a)) out
