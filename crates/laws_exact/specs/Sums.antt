-- Document 01, 'Where the result is exact': sum and difference of polynomials with whole coefficients are the exact
-- truncated ones where |A| + |B| is at most 2 ^ 53, at every index under the announced limits and on every shortcut.
-- Negation is exact wherever the coefficients are whole. Document 01 does not say whether |A| is of an operand as it is
-- stored or of what the cut to the smaller limits leaves: both are proved, the first from the second.
use Rattle.std.specs.Prelude.{◌≡◌, Bool, true, false, List, ℕ, suc, ◌+◌, ◌^◌, ◌≤◌, ◌<◌, length, ℤ, neg_ℤ, nat_abs}
use Rattle.std.proofs.Math.Path.{refl}
use Rattle.std.proofs.Common.{ap, le_refl, arith}
use Rattle.lists.specs.Four.{at, four, each}
use Rattle.model.specs.declared.Family.TheVariants.{Sum}
use Rattle.model.specs.Header.{stored}
use Rattle.model.specs.Limits.{min_degrees_p1}
use Rattle.model.specs.Announced.{announced, paired}
use Rattle.model.specs.Poly.{Poly, block_of, coefficient_at}
use Rattle.model.specs.Add.{combined}
use Rattle.model.specs.Negate.{negated}
use Rattle.model_textbook.specs.Textbook.{Series, series_of, weight, plus, less}
use Rattle.laws_whole.specs.Int.{abs-add, abs-sub}
use Rattle.laws_whole.specs.Whole.{Whole}
use Rattle.laws_whole.specs.StoredLaws.{inside_in-box}
use Rattle.laws_whole.specs.SeriesSizes.{weight-at}
use Rattle.shape_words.specs.Rules.{Regular}
use Rattle.shape_words.specs.Lengths.{Inside, inside-four, is_inside_lem}
use Rattle.laws_keeps.specs.Keeps.{limits_of, left-sits, right-sits, negated-head}
use Rattle.laws_exact.specs.Weights.{weight_any}
use Rattle.laws_exact.specs.Wholes.{Wholes, Is, wholes-is, cut-is}
use Rattle.laws_exact.specs.Joins.{join_z, Room, joined_is, negated-is}

-- the series of a polynomial with the numbers a at its places, and |A|
abbrev pub series_in : Poly → (ℕ → ℤ) → Series
series_in p a = series_of p.head.lengths a

abbrev pub weight_in : Poly → (ℕ → ℤ) → ℕ
weight_in p a = weight p.head.lengths (series_in p a)

-- under any limits no more
pub weight_in_lem : (p : Poly) → Regular p.head → (a : ℕ → ℤ) (l : List ℕ) → length l ≡ 4 → weight l (series_in p a) ≤ weight_in p a
weight_in_lem p g a = weight_any p.head.lengths (ap length g.ns) a

abs-join : (minus : Bool) (x y : ℤ) → nat_abs (join_z minus x y) ≤ nat_abs x + nat_abs y
abs-join false = abs-add
abs-join true = abs-sub

-- Only what the cut leaves has to be whole, and |A| and |B| are of that: each sums under the smaller limits alone.
module _ (p q : Poly) (g : Regular p.head) (h : Regular q.head) {A B : Series} (u : Is (limits_of p q) (block_of p) A)
    (v : Is (limits_of p q) (block_of q) B) (bound : weight (limits_of p q) A + weight (limits_of p q) B ≤ 2 ^ 53) where
  size-cut : (C : Series) (k : List ℕ) → length k ≡ 4 → Inside (limits_of p q) k → nat_abs (C k) ≤ weight (limits_of p q) C
  unfolding min_degrees_p1
  size-cut C k f i = weight-at C (inside_in-box (limits_of p q) refl k f (is_inside_lem i))

  pub room : (minus : Bool) → Room minus (limits_of p q) A B
  room minus = record {
    left = λ k f i. omega (arith, size-cut A k f i);
    both = λ k f i. omega (arith, abs-join minus (A k) (B k), size-cut A k f i, size-cut B k f i);
  }

-- so too where every coefficient is whole, |A| and |B| of the operands as they are stored
module _ (p q : Poly) (g : Regular p.head) (h : Regular q.head) (a b : ℕ → ℤ) (u : Wholes (block_of p) a) (v : Wholes (block_of q) b)
    (bound : weight_in p a + weight_in q b ≤ 2 ^ 53) where
  pub bound-cut : weight (limits_of p q) (series_in p a) + weight (limits_of p q) (series_in q b) ≤ 2 ^ 53
  unfolding min_degrees_p1
  bound-cut = omega (arith, weight_in_lem p g a (limits_of p q) refl, weight_in_lem q h b (limits_of p q) refl)

pub negated-exact : (p : Poly) → Regular p.head → (a : ℕ → ℤ) → Wholes (block_of p) a → (k : List ℕ) → length k ≡ 4
    → Whole (coefficient_at (block_of (negated p)) k) (neg_ℤ (series_in p a k))
unfolding negated
negated-exact p g a w k f =
    let l = four (λ v. suc (at k v)) in
    rw (negated-head p g) ((negated-is (stored p.head) refl (wholes-is w l)).at k f
    (inside-four (each (λ v. at k v < at l v) (le_refl _) (le_refl _) (le_refl _) (le_refl _))))
