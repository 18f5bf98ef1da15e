-- What sums and negation owe of their headers (document 01, 'Announced limits and lengths'): the true header is the
-- announced one, and the coefficients are as many as it says.
use Rattle.std.specs.Prelude.{◌≡◌, refl, Bool, true, false, List, ℕ, ◌<◌, eqb, length, Float}
use Rattle.std.proofs.Common.{sym, ap, ◌∙◌, le_trans, arith, lit<, eqb-true}
use Rattle.std.proofs.Math.Nat.{le_refl}
use Rattle.std.proofs.Math.ListN.{length-set}
use Rattle.lists.specs.Test.{decide}
use Rattle.lists.specs.Table.{length-table}
use Rattle.lists.specs.Four.{at}
use Rattle.model.specs.declared.Header.{Header}
use Rattle.model.specs.declared.Family.TheVariants.{Same, Sum}
use Rattle.model.specs.Header.{limit, stored, count, no_header}
use Rattle.model.specs.Limits.{min_degrees_p1, cut_to, max_shape}
use Rattle.model.specs.Announced.{announced, single, paired}
use Rattle.model.specs.Poly.{Poly, Block, block_of, poly_of, cut}
use Rattle.model.specs.Add.{turned, place_joined, joined, joined_block, combined}
use Rattle.model.specs.Negate.{negated_at, negated}
use Rattle.shape_words.specs.Rules.{GoodVar, Regular, ruled-at, none-regular}
use Rattle.shape.specs.Limits.{min_limit-pos}
use Rattle.shape.specs.Announced.{announced-regular}
use Rattle.shape.specs.Under.{under_same}
use Rattle.shape.specs.Keeps.{Keeps}
use Rattle.laws_keeps.specs.Sits.{Sits, sits-more, cut-sits, max-at, max-left, max-right}

-- a block that sits under the lengths of a header
pub sits-keeps : {h : Header} {b : Block} → Regular h → Sits h.lengths b → Keeps h (poly_of h b)
sits-keeps {h} {b} r s = record {
  regular = record {
    rules = record { few = r.rules.few; v0 = var 0 (lit< tt); v1 = var 1 (lit< tt); v2 = var 2 (lit< tt); v3 = var 3 (lit< tt); low = r.rules.low };
    ls = r.ls;
    ns = s.ns;
  };
  under = record { vars = refl; limits = refl; most = s.hi; cap = refl };
  full = s.full;
}
  where
    var : (k : ℕ) → k < 4 → GoodVar h.vars k (limit h k) (at b.lengths k)
    var k l = let g = ruled-at r.rules k l in record { pos = s.lo k l; fit = le_trans (s.hi k l) g.fit; most = g.most; gone = g.gone }

-- ---- sums

length-turned : (minus : Bool) (a : List Float) → length (turned minus a) ≡ length a
length-turned false a = refl
length-turned true a = length-table (negated_at a) (length a)

module _ (minus : Bool) {l : List ℕ} {a b : Block} (s : Sits l a) (t : Sits l b) where
  abbrev lengths : List ℕ
  lengths = max_shape a.lengths b.lengths

  joined-full : length (joined minus lengths a b) ≡ count lengths
  unfolding joined
  joined-full =
      decide (eqb (count b.lengths) 1)
      (λ e. rw (e, max-left s t (eqb-true _ _ e)) (length-set a.places 0 _ ∙ s.full))
      (λ e. rw e (decide (eqb (count a.lengths) 1)
      (λ f. rw (f, max-right s t (eqb-true _ _ f)) (length-turned minus _ ∙ length-set b.places 0 _ ∙ t.full))
      (λ f. rw f (length-table (place_joined minus a b lengths) (count lengths)))))

  -- the sum of blocks under l
  pub joined-sits : Sits lengths (joined_block minus a b)
  unfolding joined_block max_shape
  joined-sits = record {
    ns = refl;
    lo = λ k h. rw (max-at a.lengths b.lengths k h) (omega (arith, s.lo k h));
    hi = λ k h. le_refl _;
    full = joined-full;
  }

  pub joined-under : Sits l (joined_block minus a b)
  joined-under = sits-more (λ k h. rw (max-at a.lengths b.lengths k h) (omega (arith, s.hi k h, t.hi k h))) joined-sits

-- the smaller limits
abbrev pub limits_of : Poly → Poly → List ℕ
limits_of p q = min_degrees_p1 p.head q.head

module _ (p q : Poly) (g : Regular p.head) (h : Regular q.head) where
  -- the operands, cut to the smaller limits
  pub left-sits : Sits (limits_of p q) (cut (limits_of p q) (block_of p))
  left-sits = cut-sits (limits_of p q) (block_of p) (min_limit-pos p.head q.head g.rules h.rules) (λ k l. (ruled-at g.rules k l).pos)

  pub right-sits : Sits (limits_of p q) (cut (limits_of p q) (block_of q))
  right-sits = cut-sits (limits_of p q) (block_of q) (min_limit-pos p.head q.head g.rules h.rules) (λ k l. (ruled-at h.rules k l).pos)

  pub combined-keeps : (minus : Bool) → Keeps (announced Sum p.head q.head) (combined minus p q)
  unfolding combined announced paired cut cut_to max_shape joined_block
  combined-keeps minus = sits-keeps (announced-regular Sum g h) (joined-sits minus left-sits right-sits)

-- the true header is the announced one
pub combined-head : (minus : Bool) (p q : Poly) → (combined minus p q).head ≡ announced Sum p.head q.head
unfolding combined announced paired cut cut_to max_shape joined_block
combined-head minus p q = refl

-- ---- negation

pub negated-head : (p : Poly) → Regular p.head → (negated p).head ≡ p.head
unfolding negated announced single
negated-head p g = λ i. record { vars = p.head.vars; limits = sym g.ls i; lengths = sym g.ns i; cap = p.head.cap }

pub negated-keeps : (p : Poly) → Regular p.head → Keeps (announced Same p.head no_header) (negated p)
unfolding negated
negated-keeps p g = record {
  regular = announced-regular Same g none-regular;
  under = under_same _;
  full = length-table (negated_at p.coeffs) (stored p.head) ∙ ap stored (sym (negated-head p g));
}
