-- What the functions of a substitution ask and leave. The m.. are the lengths of buffers.
use Rattle.std.specs.Prelude.{ℕ, zero, suc, ◌+◌, ◌-◌, ◌*◌, ◌≤◌, ◌<◌, min, List, false, ◌≡◌, set}
use Rattle.lists.specs.Four.{at}
use Rattle.model.specs.declared.Header.{Header}
use Rattle.model.specs.declared.Family.TheVariants.{Substitution}
use Rattle.model.specs.Header.{count, stored}
use Rattle.model.specs.Limits.{cut_to}
use Rattle.model.specs.Announced.{announced}
use Rattle.model.specs.Poly.{Block}
use Rattle.model.specs.Add.{joined_block}
use Rattle.model.specs.Substitute.{row_at}
use Rattle.shape_words.specs.Rules.{Regular}
use Rattle.shape_words.specs.Lengths.{Lengths}
use Rattle.product.specs.Room.{Caps, Under}
use Rattle.substitution_turn.specs.Room.{times_put}

-- the lengths of a row of v
abbrev pub row_of : List ℕ → ℕ → List ℕ → List ℕ
row_of l v n = set (cut_to l n) v 1

-- the polynomial under x, what is put under y, the announced header h and the buffers
pub record Given (x y h : Header) (v n ma mb mo mw : ℕ) : Type 0 where
  pub left : Regular x
  pub right : Regular y
  pub is : h ≡ announced (Substitution v) x y
  pub all : n ≡ stored h
  pub full_a : ma ≡ stored x
  pub full_b : mb ≡ stored y
  pub out : mo ≡ n
  pub work : mw ≡ 8 * n

-- the same of a variable that is there, on lengths and limits: `most` are the announced lengths
pub record Puts (la lb limits : List ℕ) (v n ma mb mo mw : ℕ) : Type 0 where
  pub left : Lengths la
  pub right : Lengths lb
  pub var : v < 4
  pub positive : (k : ℕ) → k < 4 → 1 ≤ at limits k
  pub caps : Caps limits
  pub most : List ℕ
  pub all : n ≡ count most
  pub small : n ≤ 16777216
  pub fit : (k : ℕ) → k < 4 → min (at limits k) (at (row_of limits v la) k + (at la v - 1) * (min (at limits k) (at lb k) - 1)) ≤ at most k
  pub full_a : ma ≡ count la
  pub full_b : mb ≡ count lb
  pub out : mo ≡ n
  pub work : mw ≡ 8 * n

-- a block with the lengths c is taken out of one with the lengths la
pub record Cuts (la c : List ℕ) (v ma mo : ℕ) : Type 0 where
  pub left : Lengths la
  pub to : Lengths c
  pub var : v < 4
  pub inner : (k : ℕ) → k < 4 → at c k ≤ at la k
  pub full : ma ≡ count la
  pub fits : count c ≤ mo

-- Horner's rule over the first k rows of a, with what is put cut already
unfoldable pub turns : List ℕ → ℕ → Block → ℕ → Block → Block → Block
turns l v a zero b res = res
turns l v a (suc k) b res = turns l v a k b (joined_block false (times_put l res b) (row_at l v a k))

-- k rows are left to do: no turn makes a length above `bound`, which grows by one less than what is put has, nor above
-- the limit
pub record Hornering (la : List ℕ) (v k : ℕ) (r b c limits : List ℕ) (n ma mo mw : ℕ) : Type 0 where
  pub left : Lengths la
  pub var : v < 4
  pub rows : k ≤ at la v
  pub value : Under limits r
  pub put : Under limits b
  pub row : Under limits c
  pub is_c : c ≡ row_of limits v la
  pub caps : Caps limits
  pub most : List ℕ
  pub all : n ≡ count most
  pub small : n ≤ 16777216
  pub bound : ℕ → ℕ
  pub in_r : (j : ℕ) → j < 4 → at r j ≤ bound j
  pub in_c : (j : ℕ) → j < 4 → at c j ≤ bound j
  pub fits : (j : ℕ) → j < 4 → min (at limits j) (bound j + k * (at b j - 1)) ≤ at most j
  pub full : ma ≡ count la
  pub out : mo ≡ n
  pub work : mw ≡ 8 * n
