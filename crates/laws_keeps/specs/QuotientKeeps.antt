-- What a quotient owes of its header (document 01, 'Announced limits and lengths', quotient: a where the divisor's b is
-- 1, else L): the true header is the announced one, and the coefficients are as many as it says; on every shortcut.
use Rattle.std.specs.Prelude.{◌≡◌, refl, ℕ, ◌≤◌, ◌<◌, eqb}
use Rattle.std.proofs.Common.{◌∙◌, arith, eqb-true, eq-eqb}
use mathlib.Core.List.{List, []}
use Rattle.std.proofs.Math.Nat.{le_refl, le_trans}
use Rattle.std.specs.Float.Ieee.{eq}
use Rattle.std.proofs.lemmas.Bool.{eqb-false}
use Rattle.lists.specs.Test.{decide, and_left, of-both}
use Rattle.lists.specs.Table.{length-table}
use Rattle.lists.specs.Grow.{length-grow}
use Rattle.lists.specs.Four.{at, at-four, four_same}
use Rattle.model.specs.declared.Family.TheVariants.{Quotient}
use Rattle.model.specs.Header.{count}
use Rattle.model.specs.Limits.{cut_to}
use Rattle.model.specs.Announced.{announced, paired, length_after}
use Rattle.model.specs.Poly.{Poly, Block, block, cut}
use Rattle.model.specs.Readings.{one_f, first}
use Rattle.model.specs.Product.{is_constant, is_one}
use Rattle.model.specs.Quotient.{recurred, quotient_shape, divided_at, quotient_of, divided, quotient_poly}
use Rattle.shape_words.specs.Rules.{Regular}
use Rattle.shape_words.specs.Spans.{count-one}
use Rattle.shape.specs.Announced.{announced-regular}
use Rattle.shape.specs.Keeps.{Keeps}
use Rattle.laws_keeps.specs.Sits.{Sits}
use Rattle.laws_keeps.specs.Keeps.{sits-keeps, left-sits, right-sits}

-- ---- the lengths

-- by the two cases of the divisor's length
pub by_length : (P : ℕ → Type 0) (l n m : List ℕ) (k : ℕ) → k < 4 → (at m k ≡ 1 → P (at n k)) → ((at m k ≡ 1 → ⊥) → P (at l k)) → P (at
    (quotient_shape l n m) k)
unfolding quotient_shape
by_length P l n m k h f g =
    rw (at-four (λ k. length_after Quotient k (at l k) 1 (at n k) (at m k)) k h)
    (decide (eqb (at m k) 1) (λ t. rw t (f (eqb-true _ _ t))) (λ t. rw t (g (eqb-false _ _ t))))

module _ {l : List ℕ} {a b : Block} (s : Sits l a) (t : Sits l b) where
  abbrev shape : List ℕ
  shape = quotient_shape l a.lengths b.lengths

  pub dividend-fits : Sits shape a
  dividend-fits = record {
    ns = s.ns;
    lo = s.lo;
    hi = λ k h. by_length (λ x. at a.lengths k ≤ x) l a.lengths b.lengths k h (λ e. le_refl _) (λ o. s.hi k h);
    full = s.full;
  }

  pub divisor-fits : Sits shape b
  divisor-fits = record {
    ns = t.ns;
    lo = t.lo;
    hi = λ k h. by_length (λ x. at b.lengths k ≤ x) l a.lengths b.lengths k h (λ e. omega (arith, s.lo k h)) (λ o. t.hi k h);
    full = t.full;
  }

  -- under the limits
  pub quotient-under : (k : ℕ) → k < 4 → at shape k ≤ at l k
  quotient-under k h = by_length (λ x. x ≤ at l k) l a.lengths b.lengths k h (λ e. s.hi k h) (λ o. le_refl _)

  pub recurred-fits : Sits shape (block shape (recurred a b shape))
  unfolding quotient_shape recurred
  recurred-fits = record {
    ns = refl;
    lo = λ k h. le_trans (s.lo k h) (dividend-fits.hi k h);
    hi = λ k h. le_refl _;
    full = length-grow (count shape) _ [] ∙ omega arith;
  }

  -- over a divisor of stored count 1 the dividend's
  over-constant : count b.lengths ≡ 1 → a.lengths ≡ shape
  unfolding quotient_shape
  over-constant e =
      s.ns
      ∙ four_same (at a.lengths) (λ k. length_after Quotient k (at l k) 1 (at a.lengths k) (at b.lengths k))
      (λ k h. rw (eq-eqb (at b.lengths k) 1 (count-one b.lengths t.lo e k h)))

  -- ---- the ways

  pub quotient-sits : Sits shape (quotient_of l a b)
  unfolding quotient_of
  quotient-sits =
      let constant : Sits shape (block a.lengths _) = record {
        ns = s.ns;
        lo = s.lo;
        hi = dividend-fits.hi;
        full = length-table (divided_at (first b.places) a.places) (count a.lengths);
      } in
      of-both (Sits shape) (is_one b) dividend-fits (of-both (Sits shape) (is_constant b) constant recurred-fits)

  pub quotient-lengths : (quotient_of l a b).lengths ≡ shape
  unfolding quotient_of
  quotient-lengths =
      decide (is_one b)
      (λ o. rw o (over-constant (eqb-true _ _ (and_left (is_constant b) (eq (first b.places) one_f) o))))
      (λ o. rw o (decide (is_constant b) (λ c. rw c (over-constant (eqb-true _ _ c))) (λ c. rw c)))

-- ---- the whole quotient

module _ (p q : Poly) (g : Regular p.head) (h : Regular q.head) where
  pub quotient-keeps : Keeps (announced Quotient p.head q.head) (quotient_poly p q)
  unfolding quotient_poly divided announced paired cut cut_to quotient_shape
  quotient-keeps = sits-keeps (announced-regular Quotient g h) (quotient-sits (left-sits p q g h) (right-sits p q g h))

  -- the true header is the announced one
  pub quotient-head : (quotient_poly p q).head ≡ announced Quotient p.head q.head
  unfolding quotient_poly divided announced paired cut cut_to quotient_shape
  quotient-head = rw (quotient-lengths (left-sits p q g h) (right-sits p q g h))
