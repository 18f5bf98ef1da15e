-- REFERENCE 4.7. Document 01, port order 4: product. Shortcuts in order: either is zero, tested before the cut; then,
-- after it, left one, right one; left constant, right constant (c times x); left linear, right linear; general. A
-- linear factor gives m times the other shifted up by one and, unless c is zero, adds the other times c, which is the
-- product again. Refusals 1, 2, 5, 6.
use Rattle.std.specs.Prelude.{ℕ, zero, suc, ◌+◌, ◌-◌, min, List, [], ◌∷◌, Bool, false, ◌&&◌, ◌||◌, cond, eqb, length, get_or, set, Float}
use Rattle.std.specs.Float.{nan, binary64}
use Rattle.std.specs.Float.Ieee.{mul, eq}
use Rattle.lists.specs.Table.{table}
use Rattle.lists.specs.Four.{at}
use Rattle.model.specs.declared.Linear.{Linear}
use Rattle.model.specs.declared.Refusal.{Refusal}
use Rattle.model.specs.Results.{Answer}
use Rattle.model.specs.declared.Family.TheVariants.{Product}
use Rattle.model.specs.Header.{count, ones}
use Rattle.model.specs.Places.{index}
use Rattle.model.specs.Limits.{sum_shape}
use Rattle.model.specs.Announced.{announced}
use Rattle.model.specs.Refusals.{zero_f}
use Rattle.model.specs.Gates.{pair_gate, announced_pair}
use Rattle.model.specs.Poly.{Poly, Block, block, block_of, poly_of, held, read_at, cut}
use Rattle.model.specs.Answers.{answered, out_after, scratch_after}
use Rattle.model.specs.Linear.{linear}
use Rattle.model.specs.Readings.{one_f, first}
use Rattle.model.specs.Add.{joined_block}
use Rattle.model.specs.General.{general}

-- zero, one and constant need stored count 1
abbrev pub is_constant : Block → Bool
is_constant b = eqb (count b.lengths) 1

abbrev pub is_zero : Block → Bool
is_zero b = is_constant b && eq (first b.places) zero_f

abbrev pub is_one : Block → Bool
is_one b = is_constant b && eq (first b.places) one_f

abbrev pub constant_block : Float → Block
constant_block c = block ones (c ∷ [])

-- c times each place
abbrev pub scaled_at : Float → List Float → ℕ → Float
scaled_at c a k = mul binary64 c (get_or a k nan)

abbrev pub scaled : Float → Block → Block
scaled c b = block b.lengths (table (count b.lengths) (scaled_at c b.places))

-- one more in the variable v, as far as the limit lets it
unfoldable pub grown : List ℕ → ℕ → List ℕ → List ℕ
grown l v n = set n v (min (at l v) (at n v + 1))

-- m times b, shifted up by one in v (the source's `mul_var`)
unfoldable pub raised_at : ℕ → Float → Block → List ℕ → Float
raised_at v m b i = cond (eqb (at i v) 0) zero_f (mul binary64 (read_at b (set i v (at i v - 1))) m)

unfoldable pub raised : List ℕ → ℕ → Float → Block → Block
raised l v m b = let n = grown l v b.lengths in block n (table (count n) (λ k. raised_at v m b (index n k)))

-- a linear factor times x, given the product by a constant; l the limits
unfoldable pub linear_product : (Block → Block) → List ℕ → Linear → Block → Block
linear_product by_c l line x =
    let up = raised l line.variable line.m x in
    cond (eq line.c zero_f) up (joined_block false up (by_c x))

abbrev pub general_block : List ℕ → Block → Block → Block
general_block l a b = let r = sum_shape l a.lengths b.lengths in block r (general a.lengths b.lengths r a.places b.places)

-- The shortcuts in their order, and what follows where a factor is neither one nor a constant.
unfoldable pub shortcut : Block → Block → Block → Block
shortcut a b rest =
    cond (is_one a) b
    (cond (is_one b) a
    (cond (is_constant a) (scaled (first a.places) b)
    (cond (is_constant b) (scaled (first b.places) a)
    rest)))

-- Blocks that are cut already. The product by a constant that a linear factor asks for is the product again; it finds a
-- constant on the right, so that it asks for no other, and the first argument, how often a line may still be asked for,
-- is one in a product and none in that.
unfoldable pub product_of : ℕ → List ℕ → Block → Block → Block
product_of zero l a b = shortcut a b (general_block l a b)
product_of (suc s) l a b =
    let by_c : Linear → Block → Block = λ line x. product_of s l x (constant_block line.c) in
    shortcut a b
    (cond (linear a).yes (linear_product (by_c (linear a)) l (linear a) b)
    (cond (linear b).yes (linear_product (by_c (linear b)) l (linear b) a)
    (general_block l a b)))

-- zero is tested before the cut, the rest after it
unfoldable pub multiplied : List ℕ → Block → Block → Block
multiplied l a b = cond (is_zero a || is_zero b) (constant_block zero_f) (product_of 1 l (cut l a) (cut l b))

unfoldable pub product_poly : Poly → Poly → Poly
product_poly a b = let h = announced Product a.head b.head in poly_of h (multiplied h.limits (block_of a) (block_of b))

-- w and u the header words, a and b the coefficients, out and scratch the buffers as they came
module _ (w : ℕ) (a : List Float) (u : ℕ) (b out scratch : List Float) where
  abbrev pub product_gate : Refusal
  product_gate = pair_gate Product w (length a) u (length b) (length out) (length scratch)

  unfoldable pub product_answer : Answer
  product_answer = answered product_gate (product_poly (held w a) (held u b))

  unfoldable pub product_out : List Float
  product_out = out_after product_gate (announced_pair Product w u) (product_poly (held w a) (held u b)) out

  unfoldable pub product_scratch : List Float
  product_scratch = scratch_after product_gate (announced_pair Product w u) scratch
