-- The results are polynomials with whole coefficients again, so that the laws of this crate apply to them (document 01,
-- 'Where the result is exact', of what is made in several steps): their series are the exact ones under the limits, |A
-- + B| is at most |A| + |B|, and |A B| at most |A| |B|.
use Rattle.std.specs.Prelude.{◌≡◌, true, false, List, ℕ, ◌+◌, ◌*◌, ◌^◌, ◌≤◌, length, ℤ, nat_abs}
use Rattle.std.proofs.Common.{ap, le_trans, le_of_eq, mul-le-mul, arith}
use Rattle.model.specs.declared.Header.{Header}
use Rattle.model.specs.declared.Family.TheVariants.{Sum, Product}
use Rattle.model.specs.Announced.{announced}
use Rattle.model_textbook.specs.Sum.{add_n}
use Rattle.model.specs.Poly.{Poly, block_of}
use Rattle.model.specs.Add.{combined}
use Rattle.model.specs.Product.{product_poly}
use Rattle.model_textbook.specs.Textbook.{Series, weight, plus, less, times}
use Rattle.laws_whole.specs.Int.{abs-sub}
use Rattle.laws_whole.specs.BoxLaws.{box-plus}
use Rattle.laws_whole.specs.BoxSizes.{box_n-le}
use Rattle.laws_whole.specs.SeriesSizes.{weight-plus, weight-times}
use Rattle.shape_words.specs.Rules.{Regular, ruled-at}
use Rattle.shape_words.specs.Lengths.{Inside}
use Rattle.shape.specs.Keeps.{Keeps}
use Rattle.laws_keeps.specs.Sits.{Sits}
use Rattle.laws_keeps.specs.Keeps.{combined-keeps}
use Rattle.laws_keeps.proofs.ProductKeeps.{product-keeps}
use Rattle.laws_exact.specs.Weights.{weight_any}
use Rattle.laws_exact.specs.Wholes.{Wholes, Is}
use Rattle.laws_exact.specs.Cuts.{numbers_of, is-wholes, wholes_agree, wholes-weight}
use Rattle.laws_exact.specs.Sums.{series_in, weight_in}

-- the whole numbers of p are those of Z under the limits l, and |Z| there is n at most
pub record Result (l : List ℕ) (p : Poly) (Z : Series) (n : ℕ) : Type 0 where
  pub wholes : Wholes (block_of p) (numbers_of p.head.lengths Z)
  pub agrees : (k : List ℕ) → length k ≡ 4 → Inside l k → series_in p (numbers_of p.head.lengths Z) k ≡ Z k
  pub light : weight_in p (numbers_of p.head.lengths Z) ≤ n

-- under the announced limits a result sits
pub keeps-sits : {h : Header} {p : Poly} → Keeps h p → Sits h.limits (block_of p)
keeps-sits k = record {
  ns = k.regular.ns;
  lo = λ v l. (ruled-at k.regular.rules v l).pos;
  hi = λ v l. rw (← k.under.limits) (ruled-at k.regular.rules v l).fit;
  full = k.full;
}

pub result : {h : Header} {p : Poly} {Z : Series} {n : ℕ} → Keeps h p → Is h.limits (block_of p) Z
    → weight p.head.lengths Z ≤ n → Result h.limits p Z n
result k w b = let s = keeps-sits k in record { wholes = is-wholes s w; agrees = wholes_agree s w; light = le_trans (wholes-weight s w) b }

pub weight-less : (A B : Series) (n : List ℕ) → weight n (less A B) ≤ weight n A + weight n B
unfolding weight less
weight-less A B n =
    le_trans (box_n-le _ (λ k. nat_abs (A k) + nat_abs (B k)) n (λ k u. abs-sub (A k) (B k))) (le_of_eq
    (box-plus add_n (λ k. nat_abs (A k)) (λ k. nat_abs (B k)) n))

module _ (p q : Poly) (g : Regular p.head) (h : Regular q.head) (a b : ℕ → ℤ) (u : Wholes (block_of p) a) (v : Wholes (block_of q) b) where
  pub left-weight : (n : List ℕ) → length n ≡ 4 → weight n (series_in p a) ≤ weight_in p a
  left-weight n e = weight_any p.head.lengths (ap length g.ns) a n e

  pub right-weight : (n : List ℕ) → length n ≡ 4 → weight n (series_in q b) ≤ weight_in q b
  right-weight n e = weight_any q.head.lengths (ap length h.ns) b n e
