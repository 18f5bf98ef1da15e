-- What rests on laws of specs/ (Quotients).
use Rattle.std.specs.Prelude.{◌≡◌, List, ℕ, ◌+◌, ◌*◌, ◌^◌, ◌≤◌, ℤ}
use Rattle.std.proofs.Math.Path.{sym, ap}
use Rattle.std.proofs.Common.{◌∙◌}
use Rattle.std.proofs.Math.ListN.{length}
use Rattle.std.proofs.Math.IntN.{nat_abs}
use Rattle.model.specs.declared.Family.TheVariants.{Quotient}
use Rattle.model.specs.Header.{stored}
use Rattle.model.specs.Announced.{announced, paired}
use Rattle.model.specs.Poly.{Poly, block_of, coefficient_at}
use Rattle.model.specs.Quotient.{quotient_poly}
use Rattle.model_textbook.specs.Textbook.{Series, weight, origin, quotient}
use Rattle.laws_whole.specs.Whole.{Whole}
use Rattle.laws_whole.specs.BoxSizes.{box_n-part}
use Rattle.shape_words.specs.Rules.{Regular}
use Rattle.shape_words.specs.Lengths.{Inside}
use Rattle.shape.specs.Limits.{min_limit-pos}
use Rattle.shape.specs.Announced.{announced-regular}
use Rattle.laws_exact.specs.Windows.{at-within}
use Rattle.laws_keeps.specs.Keeps.{limits_of}
use Rattle.laws_exact.specs.Sums.{series_in, weight_in}
use Rattle.laws_exact.specs.Wholes.{Wholes, Is, wholes-is}
use Rattle.laws_exact.specs.Products.{own-sits}
use Rattle.laws_exact.specs.Results.{Result, keeps-sits, result}
use Rattle.laws_keeps.specs.QuotientKeeps.{quotient-keeps}
use Rattle.laws_exact_quotient.proofs.Divided.{divided-is}
use Rattle.laws_exact_quotient.specs.Quotients.{bound-cut, quotient_in, room, weight_over}

-- Only what the cut leaves has to be whole, and |B| is of that. |Q| |B| alone is enough: A is Q B under the limits, so
-- no coefficient of A there is more.
module _ (p q : Poly) (g : Regular p.head) (h : Regular q.head) (s : length p.coeffs ≡ stored p.head) (t : length q.coeffs ≡ stored q.head)
    {A B : Series} (u : Is (limits_of p q) (block_of p) A) (v : Is (limits_of p q) (block_of q) B) (unit : nat_abs (B origin) ≡ 1)
    (bound : weight (limits_of p q) (quotient A B) * weight (limits_of p q) B ≤ 2 ^ 53) where
  pub quotient-exact-cut : (k : List ℕ) → length k ≡ 4 → Inside (announced Quotient p.head q.head).limits k
      → Whole (coefficient_at (block_of (quotient_poly p q)) k) (quotient A B k)
  unfolding quotient_poly announced paired
  quotient-exact-cut = (divided-is (min_limit-pos p.head q.head g.rules h.rules) (own-sits p g s) (own-sits q h t) u v unit (room p q g h s
      t u v unit bound)).at

-- so too where every coefficient is whole, |A| and |B| of the operands as they are stored
module _ (p q : Poly) (g : Regular p.head) (h : Regular q.head) (a b : ℕ → ℤ) (u : Wholes (block_of p) a) (v : Wholes (block_of q) b)
    (unit : nat_abs (series_in q b origin) ≡ 1) (bound : weight_in p a + weight_over p a q b * weight_in q b ≤ 2 ^ 53) where
  pub quotient-exact : (k : List ℕ) → length k ≡ 4 → Inside (announced Quotient p.head q.head).limits k
      → Whole (coefficient_at (block_of (quotient_poly p q)) k) (quotient (series_in p a) (series_in q b) k)
  quotient-exact = quotient-exact-cut p q g h u.full v.full (wholes-is u (limits_of p q)) (wholes-is v (limits_of p q)) unit (bound-cut p q
      g h a b u v unit bound)

  -- the result is a polynomial with whole coefficients again, and no heavier than Q
  pub quotient-result : Result (announced Quotient p.head q.head).limits (quotient_poly p q) (quotient_in p a q b) (weight_over p a q b)
  unfolding weight
  quotient-result =
      let k = quotient-keeps p q g h in
      let s = keeps-sits k in
      let e : length (announced Quotient p.head q.head).limits ≡ 4 = ap length (announced-regular Quotient g h).ls in
      result k (record { at = quotient-exact })
      (box_n-part (λ j. nat_abs (quotient_in p a q b j))
      (at-within _ _ (ap length s.ns ∙ sym e) (λ v l. s.hi v (rw e at l))))
