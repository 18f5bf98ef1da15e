-- What the entry shows: the kernel is lent what it asks for, and its block under the announced header is the
-- definition's value.
use Rattle.std.specs.Prelude.{ℕ, ◌-◌, ◌*◌, ◌<◌, List, ◌++◌, ◌≡◌, refl, eqb, length, take, Float}
use Rattle.std.proofs.Common.{ap, ◌∙◌, arith, le_trans, zero-mul, eqb-true, ne_eqb}
use Rattle.lists.specs.Test.{decide}
use Rattle.model.specs.declared.Header.{Header}
use Rattle.model.specs.declared.Family.TheVariants.{Power}
use Rattle.model.specs.Header.{header, count, stored, no_header, with_lengths}
use Rattle.model.specs.Word.{header_of}
use Rattle.model.specs.Announced.{announced, single}
use Rattle.model.specs.Refusals.{zeros, padded}
use Rattle.model.specs.Poly.{Poly, poly, block, block_of, poly_of, held}
use Rattle.model.specs.Power.{power_poly}
use Rattle.shape_words.specs.Rules.{Ruled, Regular, ruled-at}
use Rattle.shape_words.specs.Lengths.{lengths_of_lem}
use Rattle.shape.specs.Announced.{single-limits}
use Rattle.gates.specs.Gate.{WorkReady}
use Rattle.laws_keeps.proofs.PowerKeeps.{power-keeps}
use Rattle.product.specs.Room.{Under}
use Rattle.power.specs.Room.{power_block, power_shape, Powers}

-- the announced lengths
shape-lengths : (e : ℕ) (a : Header) → (announced (Power e) a no_header).lengths ≡ power_shape e (announced (Power e) a no_header).limits a.lengths
unfolding announced single power_shape
shape-lengths e a = decide (eqb e 0) (λ t. let z : e ≡ 0 = eqb-true e 0 t in rw (t, z) (simp zero-mul)) (λ t. rw t)

-- above 0 the limits are unchanged
same-limits : (e : ℕ) {a : Header} → Regular a → (e ≡ 0 → ⊥) → (announced (Power e) a no_header).limits ≡ a.limits
unfolding announced
same-limits e g h = rw (ne_eqb e 0 h) (single-limits (Power e) g (λ k. refl))

limits-under : (e : ℕ) {a : Header} → Regular a → 0 < e → Under (announced (Power e) a no_header).limits a.lengths
limits-under e g h =
    rw (same-limits e g (λ z. omega arith))
    (record { ns = g.ns; lo = λ k i. (ruled-at g.rules k i).pos; hi = λ k i. (ruled-at g.rules k i).fit })

module _ {e w ma mo ms : ℕ} (g : WorkReady (Power e) w ma mo ms) where
  -- what the kernel is lent
  pub entry-powers : {x h : Header} {n : ℕ} → x ≡ header_of w → h ≡ announced (Power e) (header_of w) no_header → n ≡ stored h → {kw ko : ℕ}
      → kw ≡ 8 * n → ko ≡ n
      → Powers x.lengths h.limits e n kw ko
  entry-powers {x} {h} ex eh en pw po =
      let r = g.one.good.regular in
      let gh : Ruled h = rw eh g.one.announced.regular.rules in
      record {
        lens = rw ex (lengths_of_lem r.rules);
        under = λ some. rw (eh, ex) (limits-under e r some);
        positive = λ k l. le_trans (ruled-at gh k l).pos (ruled-at gh k l).fit;
        caps = record { most = λ k l. (ruled-at gh k l).most };
        all = en ∙ (rw (eh, ex) (ap count (shape-lengths e (header_of w))));
        work = pw;
        out = po;
      }

  -- the true header keeps the rules
  pub entry_ruled : (a : List Float) → length (take (stored (header_of w)) a) ≡ stored (header_of w) → Ruled (power_poly e (held w a)).head
  entry_ruled a f = (power-keeps e (held w a) g.one.good.regular f).regular.rules

-- the block under the announced header is the value
pub block-value : (e : ℕ) (p : Poly) → Regular p.head
    → poly_of (announced (Power e) p.head no_header)
    (power_block e (announced (Power e) p.head no_header).limits (block_of p)) ≡ power_poly e p
unfolding power_block power_poly announced single
block-value e p g =
    decide (eqb e 0)
    (λ t. rw t)
    (λ t. rw t (decide (eqb e 1)
    (λ u. rw u (ap (λ (l : List ℕ). poly (header p.head.vars l p.head.lengths p.head.cap) p.coeffs) (single-limits (Power e) g (λ k. refl))))
    (λ u. rw u)))

module _ (w : ℕ) (a : List Float) (e : ℕ) {x h : Header} (ex : x ≡ header_of w)
    (eh : h ≡ announced (Power e) (header_of w) no_header) {na : ℕ} (ea : na ≡ stored x) (g : Regular (header_of w)) where
  entry_value : poly_of h (power_block e h.limits (block x.lengths (take na a))) ≡ power_poly e (held w a)
  entry_value = rw (ea, ex, eh) (block-value e (held w a) g)

  pub entry-head : {r : List ℕ} → r ≡ (power_block e h.limits (block x.lengths (take na a))).lengths
      → with_lengths h r ≡ (power_poly e (held w a)).head
  entry-head k = rw k (ap (λ (p : Poly). p.head) entry_value)

  pub entry-out : (n : ℕ) {o : List Float} → o ≡ padded n (power_block e h.limits (block x.lengths (take na a))).places
      → o ≡ (power_poly e (held w a)).coeffs ++ zeros (n - length (power_poly e (held w a)).coeffs)
  entry-out n k = k ∙ ap (λ (p : Poly). padded n p.coeffs) entry_value
