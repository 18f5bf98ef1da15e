-- What `subst_var` owes of its header (document 01, 'Announced limits and lengths', substitution, and port order 7):
-- the polynomial itself where it lacks the variable; else the smaller limits, and no length above min(L, 1+(p-1)(b-1))
-- in v and min(L, a+(p-1)(b-1)) elsewhere, p the uncut length of v; on the zero, linear and Horner paths.
use Rattle.std.specs.Prelude.{◌≡◌, true, false, ◌&&◌, List, leb, ltb, length, set, Float}
use Rattle.std.proofs.Math.Path.{refl}
use Prim.Native.Nat.{ℕ, zero, suc, ◌+◌, ◌-◌, ◌*◌, ◌≤◌, ◌<◌, min}
use Rattle.std.proofs.Math.Nat.{le_refl, le_trans}
use Rattle.std.proofs.Common.{mul-le-mul_left}
use native.Mathlib.Omega.{arith}
use Rattle.std.proofs.Math.Dec.{eqb}
use Rattle.std.specs.Float.Ieee.{eq, of_bits}
use borrow.Author.Tests.{le-ltb, eqb-true, ltb-true, leb-true, leb-false, eq-eqb, ne_eqb}
use Rattle.lists.specs.Test.{decide, and_left, and_right}
use Rattle.lists.specs.Table.{length-table}
use Rattle.lists.specs.Four.{at, four, at-four, one-changed}
use Rattle.model.specs.declared.Family.TheVariants.{Substitution}
use Rattle.model.specs.Header.{len, stored, count, span}
use Rattle.model.specs.Limits.{cut_to}
use Rattle.model.specs.Announced.{announced, paired, length_after}
use Rattle.model.specs.Refusals.{zero_f}
use Rattle.model.specs.Poly.{Poly, Block, block_of, cut}
use Rattle.model.specs.Linear.{linear}
use Rattle.model.specs.Add.{joined_block}
use Rattle.model.specs.Product.{is_zero, constant_block, multiplied}
use Rattle.model.specs.Substitute.{row_at, powered, horner, substituted, substitute_poly}
use Rattle.shape_words.specs.Rules.{Regular, ruled-at}
use Rattle.shape.specs.Limits.{min_limit-pos}
use Rattle.shape.specs.Announced.{paired-regular}
use Rattle.shape.specs.Under.{under_same}
use Rattle.shape.specs.Keeps.{Keeps}
use Rattle.shape.specs.Cut.{cut_at}
use Rattle.laws_keeps.specs.Sits.{Sits}
use Rattle.laws_keeps.specs.Keeps.{limits_of}
use Rattle.laws_keeps.specs.ProductKeeps.{set-four}
use Rattle.laws_keeps.specs.Ways.{linear-is, line_two_lem}
use Rattle.laws_keeps.specs.Running.{Most, most-more, constant-most, joined-most, most-keeps}

-- p rows under the limit l, where b has two at least
rows-kept : (l p b : ℕ) → 1 ≤ l → 1 ≤ p → 2 ≤ b → min l p ≤ 1 + (p - 1) * (min l b - 1)
rows-kept l p b x y z =
    decide (leb 2 l)
    (λ t. let e : (p - 1) * 1 ≤ (p - 1) * (min l b - 1) = mul-le-mul_left (p - 1) (omega (arith, leb-true 2 l t)) in omega arith)
    (λ t. let e : l ≡ 1 = omega (arith, leb-false 2 l t) in omega arith)

module _ (l : List ℕ) (v : ℕ) (a : Block) (h : v < 4) (pos_l : (k : ℕ) → k < 4 → 1 ≤ at l k) (pos-a : (k : ℕ) → k < 4 → 1 ≤ at a.lengths k) where
  -- the lengths of a row of v
  abbrev pub row_lengths : List ℕ
  row_lengths = set (cut_to l a.lengths) v 1

  pub cut-pos : (k : ℕ) → k < 4 → 1 ≤ at (cut_to l a.lengths) k
  cut-pos k g = rw (cut_at l a.lengths k g) (omega (arith, pos_l k g, pos-a k g))

  long-cut : v < length (cut_to l a.lengths)
  unfolding cut_to
  long-cut = h

  pub row-sits : (i : ℕ) → Sits l (row_at l v a i)
  unfolding row_at cut_to
  row-sits i = record {
    ns = set-four (cut_to l a.lengths) v 1 refl;
    lo = one-changed (λ k x. 1 ≤ x) (cut_to l a.lengths) v 1 long-cut (le_refl 1) (λ k g o. cut-pos k g);
    hi = one-changed (λ k x. x ≤ at l k) (cut_to l a.lengths) v 1 long-cut (pos_l v h) (λ k g o. rw (cut_at l a.lengths k g) (omega arith));
    full = length-table _ (count row_lengths);
  }

  pub row-most : (i : ℕ) → Most l (at row_lengths) (row_at l v a i)
  unfolding row_at
  row-most i = record { sits = row-sits i; most = λ k g. le_refl _ }

  module _ (b : Block) (pos-b : (k : ℕ) → k < 4 → 1 ≤ at b.lengths k) where
    -- one less than b's length after cutting
    abbrev pub more : ℕ → ℕ
    more k = min (at l k) (at b.lengths k) - 1

    zero_is : eq zero_f zero_f ≡ true
    unfolding eq of_bits
    zero_is = refl

    -- the first turn multiplies a zero of stored count 1, and leaves the highest row
    pub zero-first : multiplied l (constant_block zero_f) b ≡ constant_block zero_f
    unfolding multiplied span
    zero-first = rw zero_is

    -- as far as the limit lets it, v keeps its rows
    pub powered-most : (m : Float) → 2 ≤ at b.lengths v → Most l (λ k. at row_lengths k + (at a.lengths v - 1) * more k) (powered l v a m)
    unfolding powered cut_to
    powered-most m two = record {
      sits = record { ns = refl; lo = cut-pos; hi = λ k g. rw (cut_at l a.lengths k g) (omega arith); full = length-table _ (count (cut_to l a.lengths)) };
      most = one-changed (λ k x. at (cut_to l a.lengths) k ≤ x + (at a.lengths v - 1) * more k) (cut_to l a.lengths) v 1 long-cut
          (rw (cut_at l a.lengths v h) (rows-kept (at l v) (at a.lengths v) (at b.lengths v) (pos_l v h) (pos-a v h) two)) (λ k g o. omega arith);
    }

module _ (v : ℕ) (p q : Poly) (g : Regular p.head) (h : Regular q.head) (full : length p.coeffs ≡ stored p.head) where
  abbrev pub limits : List ℕ
  limits = limits_of p q

  abbrev length_at : ℕ → ℕ
  length_at k = length_after (Substitution v) k (at limits k) (len p.head v) (min (at limits k) (len p.head k)) (min (at limits k) (len q.head k))

  pub lengths-fit : v < 4 → (k : ℕ) → k < 4 → min (at limits k)
      (at (set (cut_to limits p.head.lengths) v 1) k
      + (len p.head v - 1) * (min (at limits k) (len q.head k) - 1)) ≤ at (four length_at) k
  unfolding cut_to
  lengths-fit i k l =
      rw (at-four length_at k l)
      (one-changed (λ k x. min (at limits k) (x + (len p.head v - 1) * (min (at limits k) (len q.head k) - 1))
      ≤ length_at k) (cut_to limits p.head.lengths) v 1 i
      (rw (eq-eqb v v refl) (le_refl _))
      (λ k l o. rw (ne_eqb k v o, cut_at limits p.head.lengths k l) (le_refl _)) k l)

-- of a variable that p lacks: p itself, whatever q is
pub substitute_lacks : (v : ℕ) (p q : Poly) → p.head.vars ≤ v → substitute_poly v p q ≡ p
unfolding substitute_poly
substitute_lacks v p q o = rw (le-ltb v p.head.vars o)
