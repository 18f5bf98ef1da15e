-- REFERENCE 4.9, 4.10. Document 01, port order 6: exp and log, the recurrences as the source writes them, over the
-- variables, row by row. The head, the value at the constant term, is handed in. Lengths are 1 where the operand's is
-- 1, else the limit. Refusals 1, 2, 5, 6.
-- Line numbers are those of src/multivariate_taylor.rs of source document 000; lines 406 to 430 (`exp` and `log` of the
-- type) are `series_shape`, `exp_of` and `log_of`.
-- The source tests for one long variable before it recurses, and over all axes left; here a leading variable of length
-- 1 has a row 0 alone, so the test comes to the long variable itself. Of a row's axes the operand's and the result's
-- are long together.
-- lx and r are the lengths of the operand and of the result; n variables are left, from v on; xs is the operand's block
-- of those variables.
use Prim.Native.Nat.{ℕ, zero, suc, ◌+◌, ◌-◌, ◌*◌, min, max}
use mathlib.Core.List.{List, [], ◌∷◌}
use Rattle.std.specs.Prelude.{false, ltb, length, get_or, take, drop, Float}
use Rattle.std.proofs.Math.Bool.{cond}
use Rattle.std.specs.Float.{nan, binary64}
use Rattle.std.specs.Float.Ieee.{add, sub, mul, div, neg}
use Rattle.lists.specs.Table.{table}
use Rattle.lists.specs.Grow.{grow}
use Rattle.lists.specs.Stack.{stack}
use Rattle.lists.specs.Walk.{walk}
use Rattle.lists.specs.Four.{at, four}
use Rattle.model.specs.declared.Refusal.{Refusal}
use Rattle.model.specs.Results.{Answer}
use Rattle.model.specs.declared.Family.TheVariants.{Series}
use Rattle.model.specs.Header.{span, no_header}
use Rattle.model.specs.Places.{index}
use Rattle.model.specs.Announced.{announced, length_after}
use Rattle.model.specs.Refusals.{zero_f}
use Rattle.model.specs.Gates.{work_gate, announced_one}
use Rattle.model.specs.Poly.{Poly, Block, block, block_of, poly_of, held}
use Rattle.model.specs.Answers.{answered, out_after, scratch_after}
use Rattle.model.specs.Constructed.{whole_f}
use Rattle.model.specs.Add.{join_at}
use Rattle.model.specs.General.{alone, product_at}
use Rattle.model.specs.Quotient.{quotient_of}

-- the row j of the n variables after some v
abbrev pub row_of : List ℕ → ℕ → ℕ → ℕ → List Float → List Float
row_of l n v j xs = take (span l n (suc v)) (drop (j * span l n (suc v)) xs)

-- lengths of the variables after v alone
abbrev pub after : ℕ → List ℕ → List ℕ
after v l = four (λ w. cond (ltb v w) (at l w) 1)

-- each place times the number j
abbrev pub times_whole : ℕ → List Float → List Float
times_whole j xs = table (length xs) (λ i. mul binary64 (get_or xs i nan) (whole_f j))

-- each place over the number k
abbrev pub over_whole : ℕ → List Float → List Float
over_whole k xs = table (length xs) (λ i. div binary64 (get_or xs i nan) (whole_f k))

module _ (head : Float) (lx r : List ℕ) where
  -- row k from the rows before it: x's row j times j, by the result's row k - j, for j from 1 as far as x reaches; then
  -- over k (source: `exp`, lines 1302 to 1316; `exp_1d`, 1274 to 1281, takes the same steps where the row has one
  -- place: the term is (x_j * j) * res_(k-j) in both)
  unfoldable pub exp_row : ℕ → ℕ → List Float → ℕ → List Float → List Float
  exp_row n v xs k q =
      over_whole k
      (table (span r n (suc v))
      (λ i. walk (λ j acc. product_at lx r r (index r i) n (suc v) (times_whole j (row_of lx n v j xs)) (row_of r n v (k - j) q) acc)
      (min (at lx v) (k + 1) - 1) 1 zero_f))

  -- no variable left: the head (lines 1289 to 1291, and 1273); else row 0 by recursion (1298 to 1301), then the others
  unfoldable pub exp_rows : ℕ → ℕ → List Float → List Float
  unfolding exp_row
  exp_rows zero v xs = head ∷ []
  exp_rows (suc n) v xs = stack (at r v - 1) (exp_row n v xs) (exp_rows n (suc v) xs)

  -- the first j that x reaches from k, 1 at least (lines 1324 and 1358)
  abbrev pub from1 : ℕ → ℕ → ℕ
  from1 v k = max 1 (k + 1 - at lx v)

  -- one long variable (source: `log_1d`, lines 1322 to 1331): (x_k * k - sum) / x_0 / k, the sum over (x_(k-j) * res_j)
  -- * j from +0.0; past its length x is zero
  unfoldable pub log_next : ℕ → List Float → List Float → Float
  log_next v xs q =
      let k = length q in
      let x : ℕ → Float = λ i. get_or xs i nan in
      let s = walk (λ j acc. add binary64 acc (mul binary64 (mul binary64 (x (k - j)) (get_or q j nan)) (whole_f j))) (k - from1 v k) (from1 v k) zero_f in
      div binary64 (div binary64 (sub binary64 (mul binary64 (cond (ltb k (at lx v)) (x k) zero_f) (whole_f k)) s) (x 0)) (whole_f k)

  -- Where more variables are long (source: `log`), row k from the rows before it: x's row k - j by the result's row j
  -- times j, from the first j that x reaches on (lines 1358 to 1368); negated (1369); k times x's row k added, where x
  -- stores it (1370 to 1375).
  unfoldable pub log_gathered : ℕ → ℕ → List Float → ℕ → List Float → List Float
  log_gathered n v xs k q =
      let x : Block = block (after v lx) (table (span lx n (suc v)) (λ i. mul binary64 (whole_f k) (get_or (row_of lx n v k xs) i nan))) in
      let given : ℕ → Float = λ i.
      neg (walk (λ j acc. product_at lx r r (index r i) n (suc v) (row_of lx n v (k - j) xs)
      (times_whole j (row_of r n v j q)) acc) (k - from1 v k) (from1 v k) zero_f) in
      table (span r n (suc v)) (λ i. cond (ltb k (at lx v)) (join_at false (given i) x (index r i)) (given i))

  -- divided by x's row 0, through the quotient and its shortcuts, under the row's own lengths as limits (lines 1376 to
  -- 1383); then over k (1384)
  unfoldable pub log_row : ℕ → ℕ → List Float → ℕ → List Float → List Float
  unfolding log_gathered
  log_row n v xs k q =
      over_whole k (quotient_of (after v r) (block (after v r) (log_gathered n v xs k q)) (block (after v lx) (row_of lx n v 0 xs))).places

  -- no variable left: the head (lines 1339 to 1341, and 1321); one long variable: `log_1d` (1343 to 1349); else row 0
  -- by recursion (1351 to 1354), then the others
  unfoldable pub log_rows : ℕ → ℕ → List Float → List Float
  unfolding log_next log_row
  log_rows zero v xs = head ∷ []
  log_rows (suc n) v xs =
      cond (alone r n v)
      (grow (at r v - 1) (log_next v xs) (head ∷ []))
      (stack (at r v - 1) (log_row n v xs) (log_rows n (suc v) xs))

-- the result's lengths: l the limits
unfoldable pub series_shape : List ℕ → List ℕ → List ℕ
series_shape l n = four (λ k. length_after Series k (at l k) 1 (at n k) 1)

unfoldable pub exp_of : Float → List ℕ → Block → Block
exp_of head l x = let r = series_shape l x.lengths in block r (exp_rows head x.lengths r 4 0 x.places)

unfoldable pub log_of : Float → List ℕ → Block → Block
log_of head l x = let r = series_shape l x.lengths in block r (log_rows head x.lengths r 4 0 x.places)

unfoldable pub exp_poly : Float → Poly → Poly
exp_poly head p = let h = announced Series p.head no_header in poly_of h (exp_of head h.limits (block_of p))

unfoldable pub log_poly : Float → Poly → Poly
log_poly head p = let h = announced Series p.head no_header in poly_of h (log_of head h.limits (block_of p))

-- w the header word, a the coefficients, out and scratch the buffers as they came
module _ (w : ℕ) (a : List Float) (head : Float) (out scratch : List Float) where
  abbrev pub series_gate : Refusal
  series_gate = work_gate Series w (length a) (length out) (length scratch)

  unfoldable pub exp_answer : Answer
  exp_answer = answered series_gate (exp_poly head (held w a))

  unfoldable pub exp_out : List Float
  exp_out = out_after series_gate (announced_one Series w) (exp_poly head (held w a)) out

  unfoldable pub log_answer : Answer
  log_answer = answered series_gate (log_poly head (held w a))

  unfoldable pub log_out : List Float
  log_out = out_after series_gate (announced_one Series w) (log_poly head (held w a)) out

  -- of either
  unfoldable pub series_scratch : List Float
  series_scratch = scratch_after series_gate (announced_one Series w) scratch
