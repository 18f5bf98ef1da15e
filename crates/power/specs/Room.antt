-- What the functions of `pow` ask and leave. In the work the base lies at the front and the running result from n on, n
-- the announced count; la and lb are lengths, the m.. are the lengths of buffers.
use Rattle.std.specs.Prelude.{ℕ, ◌+◌, ◌-◌, ◌*◌, ◌%◌, ◌≤◌, ◌<◌, min, List, cond, ◌≡◌, eqb, length, take, Float}
use Rattle.lists.specs.Four.{at, four}
use Rattle.lists.specs.Part.{part}
use Rattle.model.specs.Header.{count}
use Rattle.model.specs.Limits.{sum_shape}
use Rattle.model.specs.Readings.{one_f}
use Rattle.model.specs.Poly.{Block, block}
use Rattle.model.specs.Product.{constant_block, multiplied}
use Rattle.model.specs.Power.{squared}
use Rattle.shape_words.specs.Lengths.{Lengths}
use Rattle.product.specs.Room.{Caps, Under}

-- the value of `pow` as a block under the limits l
unfoldable pub power_block : ℕ → List ℕ → Block → Block
power_block e l b = cond (eqb e 0) (constant_block one_f) (cond (eqb e 1) b (squared 32 l e (constant_block one_f) b))

-- what the result becomes by the lowest bit of the exponent e
abbrev pub taken : List ℕ → ℕ → Block → Block → Block
taken l e res base = cond (eqb (e % 2) 1) (multiplied l res base) res

-- the announced lengths
unfoldable pub power_shape : ℕ → List ℕ → List ℕ → List ℕ
power_shape e l n = four (λ k. min (at l k) (e * (at n k - 1) + 1))

-- the block with the lengths n that lies from p on
abbrev pub lain : ℕ → List ℕ → List Float → Block
lain p n w = block n (part p (p + count n) w)

-- a product of the blocks that lie from pa and from pb on, each in one of the first two blocks of n places
pub record Step (l la lb : List ℕ) (pa pb n mw mo : ℕ) : Type 0 where
  pub left : Under l la
  pub right : Under l lb
  pub caps : Caps l
  pub from_a : pa ≤ n
  pub from_b : pb ≤ n
  pub fits : count (sum_shape l la lb) ≤ n
  pub work : mw ≡ 8 * n
  pub out : mo ≡ n

-- p lies from `at` on, and what lies before, and after n places up to 2 n, is as it was
pub record Placed (p : Block) (at n : ℕ) (w w' : List Float) (r : List ℕ) : Type 0 where
  pub is : lain at r w' ≡ p
  pub before : (f t : ℕ) → f ≤ t → t ≤ at → part f t w' ≡ part f t w
  pub after : (f t : ℕ) → at + n ≤ f → f ≤ t → t ≤ 2 * n → part f t w' ≡ part f t w

-- the operand at the front of the work; the power 0 asks for none
pub record Loaded (e : ℕ) (a w : List Float) : Type 0 where
  pub front : 0 < e → take (length a) w ≡ a

-- what is lent for a power: la the operand's lengths
pub record Powers (la l : List ℕ) (e n mw mo : ℕ) : Type 0 where
  pub lens : Lengths la
  pub under : 0 < e → Under l la
  pub positive : (k : ℕ) → k < 4 → 1 ≤ at l k
  pub caps : Caps l
  pub all : n ≡ count (power_shape e l la)
  pub work : mw ≡ 8 * n
  pub out : mo ≡ n
