-- What a turn of Horner's rule asks and leaves. The m.. are the lengths of buffers.
use Rattle.std.specs.Prelude.{ℕ, ◌+◌, ◌-◌, ◌*◌, ◌≤◌, ◌<◌, List, false, cond, ◌≡◌, Float}
use Rattle.lists.specs.Four.{at}
use Rattle.lists.specs.Part.{part, Below}
use Rattle.model.specs.Header.{count}
use Rattle.model.specs.Limits.{sum_shape}
use Rattle.model.specs.Refusals.{zero_f}
use Rattle.model.specs.Poly.{Block, block}
use Rattle.model.specs.Add.{joined_block}
use Rattle.model.specs.Product.{is_zero, constant_block, product_of}
use Rattle.product.specs.Room.{Caps, Under, Stands}

-- Scratch in blocks of n places: what is put, cut to the limits; the running value; a row; the product's spare.

-- a block with the lengths k at the front of `out` and a row with the lengths c, neither longer than `most` says
pub record Adding (k c : List ℕ) (n mo mw : ℕ) : Type 0 where
  pub most : List ℕ
  pub left : Under most k
  pub right : Under most c
  pub caps : Caps most
  pub all : count most ≤ n
  pub small : n ≤ 16777216
  pub out : mo ≡ n
  pub work : mw ≡ 8 * n

-- the running value has the lengths r, what is put b, the row c
pub record Turning (r b c limits : List ℕ) (n mo mw : ℕ) : Type 0 where
  pub value : Under limits r
  pub put : Under limits b
  pub row : Under limits c
  pub caps : Caps limits
  pub most : List ℕ
  pub all : count most ≤ n
  pub in_p : (j : ℕ) → j < 4 → at (sum_shape limits r b) j ≤ at most j
  pub in_c : (j : ℕ) → j < 4 → at c j ≤ at most j
  pub small : n ≤ 16777216
  pub out : mo ≡ n
  pub work : mw ≡ 8 * n

-- the product of blocks that are cut already, the right one tested for zero before
unfoldable pub times_put : List ℕ → Block → Block → Block
times_put l a b = cond (is_zero a) (constant_block zero_f) (product_of 1 l a b)

-- what one turn makes of the three blocks
abbrev pub turn_of : List ℕ → ℕ → List ℕ → List ℕ → List ℕ → List Float → Block
turn_of l n r b c w =
    joined_block false (times_put l (block r (part n (n + count r) w)) (block b (part 0 (count b) w)))
    (block c (part (2 * n) (2 * n + count c) w))

-- p is the running value now, and stands at the front of `out` too; what is put stays
pub record Turned (p : Block) (n : ℕ) (w w' out : List Float) (r : List ℕ) : Type 0 where
  pub stands : Stands p out r
  pub kept : part n (n + count r) w' ≡ p.places
  pub below : Below n w w'
