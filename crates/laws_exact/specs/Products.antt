-- Document 01, 'Where the result is exact': the product of polynomials with whole coefficients is the exact truncated
-- one where |A| |B| is at most 2 ^ 53, at every index under the announced limits and on every shortcut, in 0 to 4
-- variables. (Document 01 also bounds |A| and |B|; nothing here asks for it.) |A| and |B| are of what the cut to the
-- smaller limits leaves, or of the operands as they are stored: the second follows from the first.
use Rattle.std.specs.Prelude.{◌≡◌, true, List, ℕ, ◌*◌, ◌^◌, ◌≤◌, length, ℤ, pos}
use Rattle.std.proofs.Math.Path.{refl}
use Rattle.std.proofs.Math.Nat.{le_trans}
use Rattle.std.proofs.Common.{le_refl, mul-le-mul}
use Rattle.std.specs.Float.Ieee.{eq}
use Rattle.lists.specs.Four.{at}
use Rattle.model.specs.declared.Family.TheVariants.{Product}
use Rattle.model.specs.Header.{stored}
use Rattle.model.specs.Limits.{min_degrees_p1, sum_shape}
use Rattle.model.specs.Announced.{announced, paired}
use Rattle.model.specs.Poly.{Poly, Block, block, block_of, coefficient_at, cut}
use Rattle.model.specs.General.{general}
use Rattle.model.specs.Product.{product_poly}
use Rattle.model_textbook.specs.Textbook.{Series, weight, times}
use Rattle.laws_whole.specs.Whole.{Whole}
use Rattle.laws_whole.specs.Compare.{whole-eq}
use Rattle.laws_whole.specs.StoredLaws.{inside_in-box}
use Rattle.laws_whole.specs.SeriesSizes.{sizes-le}
use Rattle.shape_words.specs.Rules.{Regular, ruled-at}
use Rattle.shape_words.specs.Lengths.{Inside, is_inside_lem}
use Rattle.shape.specs.Limits.{min_limit-pos}
use Rattle.laws_keeps.specs.Sits.{Sits}
use Rattle.laws_keeps.specs.Keeps.{limits_of, left-sits, right-sits}
use Rattle.laws_exact.specs.Sums.{series_in, weight_in, weight_in_lem}
use Rattle.laws_exact.specs.Generals.{Fits, general-is}
use Rattle.laws_exact.specs.Wholes.{Wholes, Is, wholes-is, cut-is}

-- the general product, whatever the shortcuts
abbrev pub general_block : List ℕ → Block → Block → Block
general_block l a b = let r = sum_shape l a.lengths b.lengths in block r (general a.lengths b.lengths r a.places b.places)

-- a polynomial's block under its own lengths
pub own-sits : (p : Poly) → Regular p.head → length p.coeffs ≡ stored p.head → Sits p.head.lengths (block_of p)
own-sits p g full = record { ns = g.ns; lo = λ k h. (ruled-at g.rules k h).pos; hi = λ k h. le_refl _; full = full }

-- Only what the cut leaves has to be whole, and |A| and |B| are of that.
module _ (p q : Poly) (g : Regular p.head) (h : Regular q.head) (s : length p.coeffs ≡ stored p.head) (t : length q.coeffs ≡ stored q.head)
    {A B : Series} (u : Is (limits_of p q) (block_of p) A) (v : Is (limits_of p q) (block_of q) B)
    (bound : weight (limits_of p q) A * weight (limits_of p q) B ≤ 2 ^ 53) where
  pub room : Fits (limits_of p q) A B
  unfolding min_degrees_p1
  room = record { at = λ k f i. le_trans (sizes-le A B (inside_in-box (limits_of p q) refl k f (is_inside_lem i))) bound }

-- so too where every coefficient is whole, |A| and |B| of the operands as they are stored
module _ (p q : Poly) (g : Regular p.head) (h : Regular q.head) (a b : ℕ → ℤ) (u : Wholes (block_of p) a) (v : Wholes (block_of q) b)
    (bound : weight_in p a * weight_in q b ≤ 2 ^ 53) where
  pub bound-cut : weight (limits_of p q) (series_in p a) * weight (limits_of p q) (series_in q b) ≤ 2 ^ 53
  unfolding min_degrees_p1
  bound-cut = le_trans (mul-le-mul (weight_in_lem p g a (limits_of p q) refl) (weight_in_lem q h b (limits_of p q) refl)) bound
