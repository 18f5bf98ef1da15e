-- A right factor that leaves the left operand's header as it is, and the two ways that then take one pass: by a
-- constant, and by a linear factor.
use Rattle.std.specs.Prelude.{ℕ, ◌*◌, ◌≤◌, ◌<◌, List, Bool, false, cond, not, ◌&&◌, ◌||◌, ◌≡◌, eqb, leb, ltb, length, take, Float}
use Rattle.std.specs.Float.Ieee.{eq}
use Rattle.lists.specs.Table.{table}
use Rattle.model.specs.declared.Header.{Header}
use Rattle.product.specs.declared.kernel.Way.{Way}
use Rattle.product.specs.declared.kernel.Way.TheVariants.{General}
use Rattle.model.specs.declared.Family.TheVariants.{Product}
use Rattle.model.specs.Header.{count, stored}
use Rattle.model.specs.Word.{header_of}
use Rattle.model.specs.Places.{index}
use Rattle.model.specs.Refusals.{zero_f, no_refusal}
use Rattle.model.specs.Readings.{one_f}
use Rattle.model.specs.Gates.{pair_gate, announced_pair}
use Rattle.model.specs.Poly.{Block, block}
use Rattle.model.specs.Product.{scaled_at}
use Rattle.model.specs.Linear.{no_linear}
use Rattle.product.specs.Chosen.{chosen, kind_of, line_of}
use Rattle.shape_words.specs.Rules.{Good}
use Rattle.shape_words.specs.Lengths.{Lengths}
use Rattle.product_kept.specs.Kept.{keeps_header, Keeps}
use Rattle.product_linear.specs.Raise.{lined_at}

-- no short way
abbrev pub long_way : Way
long_way = General

-- by a constant or a linear factor on the right, c neither zero nor one
abbrev pub is_light : Way → Bool
is_light w = (eqb (kind_of w) 3 || eqb (kind_of w) 5) && not (eq (line_of w).c zero_f || eq (line_of w).c one_f)

-- the way of two blocks, if it is light
unfoldable pub light_way : Block → Block → Way
light_way a b = cond (is_light (chosen 1 a b)) (chosen 1 a b) long_way

-- w and u the words, ma and mb the coefficients given, mo and ms the places lent: whether the call is not refused, and
-- a product by the right factor, of two places at most, has the left operand's header, which has more places than one
unfoldable pub owns : ℕ → ℕ → ℕ → ℕ → ℕ → ℕ → Bool
owns w ma u mb mo ms =
    (eqb (pair_gate Product w ma u mb mo ms).number 0 && keeps_header (header_of w) (header_of u))
    && (ltb 1 (stored (header_of w)) && leb (stored (header_of u)) 2)

-- how many places the answer has then
unfoldable pub own_count : ℕ → ℕ → ℕ → ℕ → ℕ → ℕ → ℕ
own_count w ma u mb mo ms = cond (owns w ma u mb mo ms) (stored (header_of w)) 0

-- the short way of a product, if it has one
unfoldable pub short_way : ℕ → List Float → ℕ → List Float → ℕ → ℕ → Way
short_way w a u b mo ms =
    cond (owns w (length a) u (length b) mo ms)
    (light_way (block (header_of w).lengths (take (stored (header_of w)) a)) (block (header_of u).lengths (take (stored (header_of u)) b)))
    long_way

-- what a light way is worth
pub record Light (a b : Block) (w : Way) : Type 0 where
  pub is : w ≡ chosen 1 a b
  pub zero : eq (line_of w).c zero_f ≡ false
  pub one : eq (line_of w).c one_f ≡ false
  pub kind : (kind_of w ≡ 3 → ⊥) → kind_of w ≡ 5

-- what owning is worth: no refusal, and n places, more than one, under the left header
pub record Owns (w ma u mb mo ms n : ℕ) : Type 0 where
  pub gate : pair_gate Product w ma u mb mo ms ≡ no_refusal
  pub told : announced_pair Product w u ≡ header_of w
  pub keeps : Keeps (header_of w) (header_of u)
  pub count : n ≡ stored (header_of w)
  pub big : 1 < n

pub record Shortens (w : ℕ) (a : List Float) (u : ℕ) (b : List Float) (mo ms : ℕ) (c : Way) : Type 0 where
  pub owns : Owns w (length a) u (length b) mo ms (stored (header_of w))
  pub light : Light (block (header_of w).lengths (take (stored (header_of w)) a)) (block (header_of u).lengths (take (stored (header_of u)) b)) c

-- the places of a block with the lengths n after a short way
abbrev pub short_places : Way → List ℕ → List Float → List Float
short_places w n a =
    cond (eqb (kind_of w) 3) (table (count n) (scaled_at (line_of w).c a))
    (table (count n) (λ k. lined_at (line_of w).variable (line_of w).c (line_of w).m (block n a) (index n k)))

-- what it asks: m places of the block and as many of the result
pub record ShortBlock (w : Way) (n : List ℕ) (m o : ℕ) : Type 0 where
  pub lens : Lengths n
  pub full : m ≡ count n
  pub room : o ≡ count n
  pub kind : (kind_of w ≡ 3 → ⊥) → kind_of w ≡ 5
  pub var : (kind_of w ≡ 3 → ⊥) → (line_of w).variable < 4

-- and of the lent buffers
pub record ShortRoom (w : Way) (h : Header) (ma mo ms : ℕ) : Type 0 where
  pub good : Good h
  pub full : stored h ≤ ma
  pub lent : stored h ≤ mo
  pub room : 8 * stored h ≤ ms
  pub kind : (kind_of w ≡ 3 → ⊥) → kind_of w ≡ 5
  pub var : (kind_of w ≡ 3 → ⊥) → (line_of w).variable < 4
