-- REFERENCE 4.8. Document 01, port order 5: quotient. Divisor one, divisor constant (each place divided), else the
-- recurrence of the source's `div`: rows negated, then x added, then divided by the divisor's row 0. Refusals 1, 2, 5,
-- 6.
-- One place of the result is `div` seen from that place: a number that goes through the variables, and at each is
-- lessened by what the rows before give.
-- A missing variable is padded with length 1: no rows lie before, so the number is lessened by +0.0, negated and then
-- added: -0.0 leaves every number as it is. So padding changes no rounded step.
-- ly and r are the lengths of the divisor and of the result, k the index of the place; n variables are left, from v on.
-- q has the places of the result before this one that agree with k in the variables before v.
use Prim.Native.Nat.{ℕ, zero, suc, ◌-◌, ◌*◌}
use Rattle.std.specs.Prelude.{List, [], false, cond, length, get_or, drop, Float}
use Rattle.std.proofs.Math.ListN.{take}
use Rattle.std.specs.Float.{nan}
use Rattle.std.specs.Float.Ieee.{add, neg, div, binary64}
use Rattle.lists.specs.Table.{table}
use Rattle.lists.specs.Grow.{grow}
use Rattle.lists.specs.Walk.{walk}
use Rattle.lists.specs.Four.{at, four}
use Rattle.model.specs.declared.Refusal.{Refusal}
use Rattle.model.specs.Results.{Answer}
use Rattle.model.specs.declared.Family.TheVariants.{Quotient}
use Rattle.model.specs.Header.{span, count}
use Rattle.model.specs.Places.{index}
use Rattle.model.specs.Announced.{announced, length_after}
use Rattle.model.specs.Refusals.{zero_f}
use Rattle.model.specs.Gates.{pair_gate, announced_pair}
use Rattle.model.specs.Poly.{Poly, Block, block, block_of, poly_of, held, cut}
use Rattle.model.specs.Answers.{answered, out_after, scratch_after}
use Rattle.model.specs.Readings.{first}
use Rattle.model.specs.Add.{join_at}
use Rattle.model.specs.General.{lo, product_at}
use Rattle.model.specs.Product.{is_one, is_constant}

module _ (ly r : List ℕ) (ys : List Float) (k : List ℕ) where
  -- how many places the rows before this one in v have
  abbrev pub rows_before : ℕ → ℕ → ℕ
  rows_before n v = at k v * span r n (suc v)

  -- the rows j before, each times the divisor's row k - j: from +0.0, j ascending from the first that the divisor
  -- reaches
  unfoldable pub taken : ℕ → ℕ → List Float → Float
  unfolding product_at
  taken n v q =
      let before = take (rows_before n v) q in
      walk (λ j acc. product_at r ly r k n (suc v) (drop (j * span r n (suc v)) before) (drop ((at k v - j) * span ly n (suc v)) ys) acc)
      (at k v - lo (at ly v) (at k v)) (lo (at ly v) (at k v)) zero_f

  -- c lessened in each variable left, then divided by the divisor's constant
  unfoldable pub lessened : ℕ → ℕ → List Float → Float → Float
  unfolding taken
  lessened zero v q c = div binary64 c (get_or ys 0 nan)
  lessened (suc n) v q c = lessened n (suc v) (drop (rows_before n v) q) (add binary64 (neg (taken n v q)) c)

-- the place with the index k: x is added in the first variable, where x stores something there
unfoldable pub quotient_at : Block → Block → List ℕ → List ℕ → List Float → Float
quotient_at x y r k q =
    lessened y.lengths r y.places k 3 1 (drop (rows_before y.lengths r y.places k 3 0) q)
    (join_at false (neg (taken y.lengths r y.places k 3 0 q)) x k)

-- every place of a result with the lengths r, each from those before it
unfoldable pub recurred : Block → Block → List ℕ → List Float
recurred x y r = grow (count r) (λ q. quotient_at x y r (index r (length q)) q) []

-- the lengths: x's where the divisor's is 1, else the limit
unfoldable pub quotient_shape : List ℕ → List ℕ → List ℕ → List ℕ
quotient_shape l n m = four (λ k. length_after Quotient k (at l k) 1 (at n k) (at m k))

abbrev pub divided_at : Float → List Float → ℕ → Float
divided_at c a k = div binary64 (get_or a k nan) c

-- blocks that are cut already
unfoldable pub quotient_of : List ℕ → Block → Block → Block
quotient_of l x y =
    cond (is_one y) x
    (cond (is_constant y) (block x.lengths (table (count x.lengths) (divided_at (first y.places) x.places)))
    (let r = quotient_shape l x.lengths y.lengths in block r (recurred x y r)))

unfoldable pub divided : List ℕ → Block → Block → Block
divided l x y = quotient_of l (cut l x) (cut l y)

unfoldable pub quotient_poly : Poly → Poly → Poly
quotient_poly a b = let h = announced Quotient a.head b.head in poly_of h (divided h.limits (block_of a) (block_of b))

-- w and u the header words, a and b the coefficients, out and scratch the buffers as they came
module _ (w : ℕ) (a : List Float) (u : ℕ) (b out scratch : List Float) where
  abbrev pub quotient_gate : Refusal
  quotient_gate = pair_gate Quotient w (length a) u (length b) (length out) (length scratch)

  unfoldable pub quotient_answer : Answer
  quotient_answer = answered quotient_gate (quotient_poly (held w a) (held u b))

  unfoldable pub quotient_out : List Float
  quotient_out = out_after quotient_gate (announced_pair Quotient w u) (quotient_poly (held w a) (held u b)) out

  unfoldable pub quotient_scratch : List Float
  quotient_scratch = scratch_after quotient_gate (announced_pair Quotient w u) scratch
