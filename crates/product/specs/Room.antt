-- What the functions of the product ask and leave. The m.. are the lengths of buffers.
use Rattle.std.specs.Prelude.{ℕ, ◌+◌, ◌*◌, ◌≤◌, ◌<◌, List, ◌++◌, cond, ◌≡◌, length, take, drop, Float}
use Rattle.lists.specs.Part.{Below}
use Rattle.lists.specs.Four.{at, four}
use Rattle.product.specs.declared.kernel.Way.{Way}
use Rattle.product.specs.declared.kernel.Way.TheVariants.{LineRight, LineLeft, General}
use Rattle.model.specs.Header.{count}
use Rattle.model.specs.Limits.{cut_to, sum_shape, max_shape}
use Rattle.model.specs.Poly.{Block}
use Rattle.model.specs.Linear.{no_linear, linear}
use Rattle.model.specs.Product.{grown}
use Rattle.shape_words.specs.Lengths.{Lengths}

-- which way, where neither is a constant and a line is looked for
abbrev pub line_way : Block → Block → Way
line_way a b = cond (linear a).yes (LineRight (linear a)) (cond (linear b).yes (LineLeft (linear b)) General)

-- limits of 64 at most
pub record Caps (l : List ℕ) : Type 0 where
  pub most : (k : ℕ) → k < 4 → at l k ≤ 64

-- four lengths of 1 to the limits
pub record Under (limits n : List ℕ) : Type 0 where
  pub ns : n ≡ four (at n)
  pub lo : (k : ℕ) → k < 4 → 1 ≤ at n k
  pub hi : (k : ℕ) → k < 4 → at n k ≤ at limits k

pub record RaisesTo (n : List ℕ) (v : ℕ) (limits : List ℕ) (ma mo : ℕ) : Type 0 where
  pub under : Under limits n
  pub caps : Caps limits
  pub var : v < 4
  pub full : ma ≡ count n
  pub fits : count (grown limits v n) ≤ mo

pub record Plain (la lb limits : List ℕ) (ma mb mo : ℕ) : Type 0 where
  pub left : Under limits la
  pub right : Under limits lb
  pub caps : Caps limits
  pub full_a : ma ≡ count la
  pub full_b : mb ≡ count lb
  pub fits : count (sum_shape limits la lb) ≤ mo

pub record Joins (n m : List ℕ) (ma mb mo : ℕ) : Type 0 where
  pub left : Lengths n
  pub right : Lengths m
  pub full_a : ma ≡ count n
  pub full_b : mb ≡ count m
  pub fits : count (max_shape n m) ≤ mo

-- a block with the lengths n, cut to the limits, that lies from p up to e, below s
pub record Lies (limits n : List ℕ) (p e s : ℕ) : Type 0 where
  pub under : Under limits n
  pub ends : e ≡ p + count n
  pub below : e ≤ s

pub record Room (w : List Float) (pa ea : ℕ) (la : List ℕ) (pb eb : ℕ) (lb : List ℕ) (spare : ℕ) (limits : List ℕ) (stage mo : ℕ) : Type 0 where
  pub left : Lies limits la pa ea spare
  pub right : Lies limits lb pb eb spare
  pub caps : Caps limits
  pub within : spare ≤ length w
  pub fits : count (sum_shape limits la lb) ≤ mo
  pub low : stage ≤ 1
  pub room : 0 < stage → spare + (2 * count (sum_shape limits la lb) + 1) ≤ length w

pub record LineRoom (w : List Float) (p e : ℕ) (n : List ℕ) (v spare : ℕ) (limits : List ℕ) (stage mo : ℕ) : Type 0 where
  pub lies : Lies limits n p e spare
  pub caps : Caps limits
  pub var : v < 4
  pub fits : count (grown limits v n) ≤ mo
  pub some : 0 < stage
  pub low : stage ≤ 1
  pub room : spare + (2 * count (grown limits v n) + 1) ≤ length w

-- two operands that no limit cuts, where the caller has them
pub record Whole (la lb limits : List ℕ) (ma mb mo mw : ℕ) : Type 0 where
  pub plain : Plain la lb limits ma mb mo
  pub room : 8 * count (sum_shape limits la lb) ≤ mw

-- one of them, that is to be multiplied by a linear factor in v
pub record LineWhole (n : List ℕ) (v : ℕ) (limits : List ℕ) (ma mo mw : ℕ) : Type 0 where
  pub raises : RaisesTo n v limits ma mo
  pub room : ma + (2 * count (grown limits v n) + 1) ≤ mw

-- two operands that lie where the caller has them: n the announced count
pub record Times (la lb limits : List ℕ) (n ma mb mo mw : ℕ) : Type 0 where
  pub left : Lengths la
  pub right : Lengths lb
  pub positive : (k : ℕ) → k < 4 → 1 ≤ at limits k
  pub caps : Caps limits
  pub all : n ≡ count (sum_shape limits (cut_to limits la) (cut_to limits lb))
  pub full_a : ma ≡ count la
  pub full_b : mb ≡ count lb
  pub out : mo ≡ n
  pub work : mw ≡ 8 * n

-- p was written to the front of what was d, and its lengths were answered
pub record Put (p : Block) (d out : List Float) (r : List ℕ) : Type 0 where
  pub lengths : r ≡ p.lengths
  pub is : out ≡ p.places ++ drop (length p.places) d

-- p stands at the front of a buffer
pub record Stands (p : Block) (out : List Float) (r : List ℕ) : Type 0 where
  pub lengths : r ≡ p.lengths
  pub front : take (length p.places) out ≡ p.places

-- and the work is as it was below s
pub record Made (p : Block) (s : ℕ) (w w' out : List Float) (r : List ℕ) : Type 0 where
  pub stands : Stands p out r
  pub below : Below s w w'
