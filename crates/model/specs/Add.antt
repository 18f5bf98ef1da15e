-- REFERENCE 4.6. Document 01, port order 3: add and subtract. Both operands are cut to the smaller limits first. A
-- right operand of stored count 1 changes only the first coefficient; else a left one does, and subtraction then
-- negates all. Otherwise each place is (0 + a) + b or (0 + a) - b over the places stored. Refusals 1, 2, 5, 6.
use Rattle.std.specs.Prelude.{ℕ, List, Bool, true, false, cond, eqb, length, set, Float}
use Rattle.std.specs.Float.Ieee.{add, sub}
use Rattle.std.specs.Float.{binary64}
use Rattle.lists.specs.Table.{table}
use Rattle.model.specs.declared.Refusal.{Refusal}
use Rattle.model.specs.Results.{Answer}
use Rattle.model.specs.declared.Family.TheVariants.{Sum}
use Rattle.model.specs.Header.{count}
use Rattle.model.specs.Places.{index, inside}
use Rattle.model.specs.Limits.{max_shape}
use Rattle.model.specs.Announced.{announced}
use Rattle.model.specs.Refusals.{zero_f}
use Rattle.model.specs.Gates.{pair_gate, announced_pair}
use Rattle.model.specs.Poly.{Poly, Block, block, block_of, poly_of, held, read_at, cut}
use Rattle.model.specs.Negate.{negated_at}
use Rattle.model.specs.Readings.{first}
use Rattle.model.specs.Answers.{answered, out_after, scratch_after}

-- x + y, or x - y
abbrev pub join : Bool → Float → Float → Float
join false x y = add binary64 x y
join true x y = sub binary64 x y

-- x joined with what b stores at the index i, where it stores something
unfoldable pub join_at : Bool → Float → Block → List ℕ → Float
join_at minus x b i = cond (inside b.lengths i) (join minus x (read_at b i)) x

-- the place k of a result with the lengths n
abbrev pub place_joined : Bool → Block → Block → List ℕ → ℕ → Float
place_joined minus a b n k = join_at minus (join_at false zero_f a (index n k)) b (index n k)

-- a with its first coefficient joined with b's
abbrev pub first_joined : Bool → List Float → List Float → List Float
first_joined minus a b = set a 0 (join minus (first a) (first b))

-- all negated, after a subtraction from a constant
abbrev pub turned : Bool → List Float → List Float
turned false a = a
turned true a = table (length a) (negated_at a)

-- the places of a sum with the lengths n
unfoldable pub joined : Bool → List ℕ → Block → Block → List Float
joined minus n a b =
    cond (eqb (count b.lengths) 1) (first_joined minus a.places b.places)
    (cond (eqb (count a.lengths) 1) (turned minus (first_joined minus b.places a.places))
    (table (count n) (place_joined minus a b n)))

-- the sum, or the difference, of blocks that are cut already
unfoldable pub joined_block : Bool → Block → Block → Block
joined_block minus a b = let n = max_shape a.lengths b.lengths in block n (joined minus n a b)

unfoldable pub combined : Bool → Poly → Poly → Poly
combined minus a b =
    let h = announced Sum a.head b.head in
    poly_of h (joined_block minus (cut h.limits (block_of a)) (cut h.limits (block_of b)))

-- w and u the header words, a and b the coefficients, out and scratch the buffers as they came
module _ (minus : Bool) (w : ℕ) (a : List Float) (u : ℕ) (b out scratch : List Float) where
  abbrev pub sum_gate : Refusal
  sum_gate = pair_gate Sum w (length a) u (length b) (length out) (length scratch)

  unfoldable pub sum_answer : Answer
  sum_answer = answered sum_gate (combined minus (held w a) (held u b))

  unfoldable pub sum_out : List Float
  sum_out = out_after sum_gate (announced_pair Sum w u) (combined minus (held w a) (held u b)) out

  unfoldable pub sum_scratch : List Float
  sum_scratch = scratch_after sum_gate (announced_pair Sum w u) scratch
