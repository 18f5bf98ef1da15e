-- Document 01, 'Where the result is exact' (port order 5): the quotient of polynomials with whole coefficients, the
-- divisor's constant 1 or -1, is the exact truncated one where |A| + |Q| |B| is at most 2 ^ 53, at every index under
-- the announced limits and on every shortcut, in 0 to 4 variables.
-- Q is the exact quotient, a series without end, and |Q| its sum under the announced limits. |A| and |B| are of what
-- the cut to the smaller limits leaves, or of the operands as they are stored: the second follows from the first.
use Rattle.std.specs.Prelude.{◌≡◌, List, ℕ, ◌+◌, ◌*◌, ◌^◌, ◌≤◌, ℤ}
use Rattle.std.proofs.Math.Path.{refl, sym, ap}
use Rattle.std.proofs.Common.{◌∙◌, arith}
use Rattle.std.proofs.Math.Nat.{le_trans, mul-le-mul_left}
use Rattle.std.proofs.Math.ListN.{length}
use Rattle.std.proofs.Math.IntN.{nat_abs}
use Rattle.model.specs.declared.Family.TheVariants.{Quotient}
use Rattle.model.specs.Header.{stored}
use Rattle.model.specs.Limits.{min_degrees_p1}
use Rattle.model.specs.Announced.{announced, paired}
use Rattle.model.specs.Poly.{Poly, block_of, coefficient_at}
use Rattle.model.specs.Quotient.{quotient_poly}
use Rattle.model_textbook.specs.Textbook.{Series, weight, origin, quotient}
use Rattle.laws_whole.specs.Whole.{Whole}
use Rattle.laws_whole.specs.BoxSizes.{box_n-part}
use Rattle.laws_whole.specs.SeriesSizes.{sizes-le}
use Rattle.laws_whole.specs.StoredLaws.{inside_in-box}
use Rattle.shape_words.specs.Rules.{Regular}
use Rattle.shape_words.specs.Lengths.{Inside, is_inside_lem}
use Rattle.shape.specs.Limits.{min_limit-pos}
use Rattle.shape.specs.Announced.{announced-regular}
use Rattle.laws_exact.specs.Windows.{at-within}
use Rattle.laws_keeps.specs.Keeps.{limits_of}
use Rattle.laws_exact.specs.Sums.{series_in, weight_in, weight_in_lem}
use Rattle.laws_exact.specs.Generals.{Fits}
use Rattle.laws_exact.specs.Wholes.{Wholes, Is, wholes-is}
use Rattle.laws_exact.specs.Products.{own-sits}
use Rattle.laws_exact.specs.Results.{Result, keeps-sits, result}
use Rattle.laws_keeps.specs.QuotientKeeps.{quotient-keeps}

-- the exact quotient of two polynomials, and |Q| under the announced limits
abbrev pub quotient_in : Poly → (ℕ → ℤ) → Poly → (ℕ → ℤ) → Series
quotient_in p a q b = quotient (series_in p a) (series_in q b)

abbrev pub weight_over : Poly → (ℕ → ℤ) → Poly → (ℕ → ℤ) → ℕ
weight_over p a q b = weight (announced Quotient p.head q.head).limits (quotient_in p a q b)

-- Only what the cut leaves has to be whole, and |B| is of that. |Q| |B| alone is enough: A is Q B under the limits, so
-- no coefficient of A there is more.
module _ (p q : Poly) (g : Regular p.head) (h : Regular q.head) (s : length p.coeffs ≡ stored p.head) (t : length q.coeffs ≡ stored q.head)
    {A B : Series} (u : Is (limits_of p q) (block_of p) A) (v : Is (limits_of p q) (block_of q) B) (unit : nat_abs (B origin) ≡ 1)
    (bound : weight (limits_of p q) (quotient A B) * weight (limits_of p q) B ≤ 2 ^ 53) where
  pub room : Fits (limits_of p q) (quotient A B) B
  unfolding min_degrees_p1
  room = record { at = λ k f i. le_trans (sizes-le (quotient A B) B (inside_in-box (limits_of p q) refl k f (is_inside_lem i))) bound }

-- so too where every coefficient is whole, |A| and |B| of the operands as they are stored
module _ (p q : Poly) (g : Regular p.head) (h : Regular q.head) (a b : ℕ → ℤ) (u : Wholes (block_of p) a) (v : Wholes (block_of q) b)
    (unit : nat_abs (series_in q b origin) ≡ 1) (bound : weight_in p a + weight_over p a q b * weight_in q b ≤ 2 ^ 53) where
  pub bound-cut : weight (limits_of p q) (quotient_in p a q b) * weight (limits_of p q) (series_in q b) ≤ 2 ^ 53
  unfolding announced paired min_degrees_p1
  bound-cut = omega (arith, mul-le-mul_left (weight_over p a q b) (weight_in_lem q h b (limits_of p q) refl))
