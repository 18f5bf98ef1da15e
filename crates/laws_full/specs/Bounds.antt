-- Lengths past which all coefficients of a series are zero, and that every rule's lengths are such: sums, products,
-- powers, substitution, the three shifts.
use Rattle.std.specs.Prelude.{ℕ, zero, suc, ◌+◌, ◌-◌, ◌*◌, ◌≤◌, ◌<◌, max, cond, List, [], ◌∷◌, ◌≡◌, refl, eqb, leb, length, set, ◌*ℤ◌}
use Rattle.std.proofs.Math.Path.{ap, ap₂}
use Rattle.std.proofs.Common.{◌∙◌, suc-mul, mul-le-mul_right}
use native.Mathlib.Omega.{arith}
use Rattle.std.proofs.Math.Nat.{zero-mul}
use Rattle.std.proofs.Math.IntN.{ℤ, pos, neg_ℤ, ◌+ℤ◌, ◌-ℤ◌, *ℤ-zero, zero-*ℤ}
use borrow.Author.Tests.{eqb-true, eqb-false, ne_eqb, leb-true, leb-false}
use Rattle.lists.specs.Test.{decide}
use Rattle.lists.specs.Four.{at, long, at_same, at_other}
use Rattle.model.specs.Places.{inside}
use Rattle.model_textbook.specs.Sum.{add_z}
use Rattle.model_textbook.specs.Box.{up_to, index_minus, degree}
use Rattle.model_textbook.specs.Textbook.{Series, truncated, series_of, plus, less, times, one, power, coefficient_of}
use Rattle.model_textbook.specs.Textbook.{substitute, shifted}
use Rattle.laws_whole.specs.SumLaws.{sum_zeros}
use Rattle.laws_whole.specs.Index.{Within}
use Rattle.laws_whole.specs.BoxLaws.{box-zeros}
use Rattle.laws_whole.specs.IndexLaws.{within-up_to}
use Rattle.shape_words.specs.Lengths.{inside_is, inside-at}
use Rattle.laws_full.specs.Unlimited.{constant, negative, rising, choose, derivative, expansion}

-- n w a length in the variable w: every coefficient past one of the four is zero
pub record Bounds (n : ℕ → ℕ) (A : Series) : Type 0 where
  pub some : (w : ℕ) → w < 4 → 1 ≤ n w
  pub past : (w : ℕ) → w < 4 → (k : List ℕ) → n w ≤ at k w → A k ≡ pos 0

-- longer ones will do
pub bounds-more : {n m : ℕ → ℕ} {A : Series} → Bounds n A → ((w : ℕ) → w < 4 → n w ≤ m w) → Bounds m A
bounds-more {n} {m} b h =
    record {
      some = λ w l. omega (arith, b.some w l, h w l);
      past = λ w l k p. b.past w l k (omega (arith, h w l));
    }

-- ---- indices

degree-at : (k : List ℕ) (w : ℕ) → at k w ≤ degree k
unfolding degree
degree-at [] w = omega arith
degree-at (x ∷ k) zero = omega arith
degree-at (x ∷ k) (suc w) = let h = degree-at k w in omega arith

within-at : {j k : List ℕ} → Within j k → (w : ℕ) → (at j w ≤ at k w) × (at (index_minus k j) w ≡ at k w - at j w)
unfolding index_minus
within-at Within.none w = (omega arith, omega arith)
within-at (Within.more l u) zero = (l, refl)
within-at (Within.more l u) (suc w) = within-at u w

-- ---- a stored polynomial, a constant

pub bounds-stored : (n : List ℕ) (a : ℕ → ℤ) → ((w : ℕ) → w < 4 → 1 ≤ at n w) → Bounds (at n) (series_of n a)
unfolding series_of truncated
bounds-stored n a h =
    record {
      some = h;
      past = λ w l k p.
          decide (inside n k) (λ t. absurd (let q = inside-at (inside_is n k t) w l in omega arith)) (λ t. rw t);
    }

pub bounds-constant : (c : ℕ) → Bounds (λ w. 1) (constant c)
unfolding constant
bounds-constant c =
    record { some = λ w l. omega arith; past = λ w l k p. rw (ne_eqb (degree k) 0 (λ e. omega (arith, degree-at k w))) }

pub bounds-one : Bounds (λ w. 1) one
unfolding one
bounds-one =
    record { some = λ w l. omega arith; past = λ w l k p. rw (ne_eqb (degree k) 0 (λ e. omega (arith, degree-at k w))) }

-- ---- sum, difference, product, power

module _ {n : ℕ → ℕ} {A : Series} (f : Bounds n A) where
  pub bounds-negative : Bounds n (negative A)
  unfolding negative
  bounds-negative = record { some = f.some; past = λ w l k p. ap neg_ℤ (f.past w l k p) }

  module _ {m : ℕ → ℕ} {B : Series} (g : Bounds m B) where
    pub bounds-plus : Bounds (λ w. max (n w) (m w)) (plus A B)
    unfolding plus
    bounds-plus =
        record {
          some = λ w l. omega (arith, f.some w l);
          past = λ w l k p. ap₂ ◌+ℤ◌ (f.past w l k (omega arith)) (g.past w l k (omega arith));
        }

    pub bounds-less : Bounds (λ w. max (n w) (m w)) (less A B)
    unfolding less
    bounds-less =
        record {
          some = λ w l. omega (arith, f.some w l);
          past = λ w l k p. ap₂ ◌-ℤ◌ (f.past w l k (omega arith)) (g.past w l k (omega arith));
        }

    -- of j and k - j, one lies past its length
    pub bounds-times : Bounds (λ w. n w + m w - 1) (times A B)
    unfolding times
    bounds-times =
        record {
          some = λ w l. omega (arith, f.some w l, g.some w l);
          past = λ w l k p.
              box-zeros add_z _ (up_to k) (λ j u.
              let q = within-at (within-up_to j k u) w in
              decide (leb (n w) (at j w))
              (λ t.
              ap (λ (x : ℤ). x *ℤ B (index_minus k j)) (f.past w l j (leb-true _ _ t)) ∙ zero-*ℤ (B (index_minus k j)))
              (λ t.
              ap (λ (x : ℤ). A j *ℤ x)
              (g.past w l (index_minus k j)
              (omega (arith, leb-false (n w) (at j w) t, q.0, q.1, f.some w l))) ∙ *ℤ-zero (A j)));
        }

-- nothing is asked of what is raised to the power of 0
pub bounds-none : (n : ℕ → ℕ) (A : Series) → Bounds (λ w. 0 * (n w - 1) + 1) (power A 0)
unfolding power
bounds-none n A = bounds-more bounds-one (λ w l. omega arith)

-- ---- one variable changed: shifts, and the coefficients of a variable

module _ {n : ℕ → ℕ} {A : Series} (f : Bounds n A) (v : ℕ) where
  -- another variable is past its length in every row
  other-past : (w : ℕ) → w < 4 → (w ≡ v → ⊥) → (k : List ℕ) (i : ℕ) → n w ≤ at k w → A (set k v i) ≡ pos 0
  other-past w l o k i p = f.past w l (set k v i) (omega (arith, at_other k v w i o))

  -- a row past the length of v
  row-past : v < 4 → (k : List ℕ) (i : ℕ) → v < length k → n v ≤ i → A (set k v i) ≡ pos 0
  row-past l k i h p = f.past v l (set k v i) (omega (arith, at_same k v i h))

  abbrev shorter : ℕ → ℕ → ℕ
  shorter d w = cond (eqb w v) (max 1 (n w - d)) (n w)

  shorter-some : (d w : ℕ) → w < 4 → 1 ≤ shorter d w
  shorter-some d w l = decide (eqb w v) (λ t. rw t (omega arith)) (λ t. rw t (f.some w l))

  -- the row at k v + d is past, where k is past the shorter lengths
  further_past : (d w : ℕ) → w < 4 → (k : List ℕ) → shorter d w ≤ at k w → A (set k v (at k v + d)) ≡ pos 0
  further_past d w l k p =
      decide (eqb w v)
      (λ t.
      let e : w ≡ v = eqb-true w v t in
      let q : max 1 (n w - d) ≤ at k w = rw t at p in
      let h : n v ≤ at k v + d = rw e at (let z : n w ≤ at k w + d = omega arith in z) in
      row-past (rw e at l) k (at k v + d) (long k v (rw e at (let z : 0 < at k w = omega arith in z))) h)
      (λ t. other-past w l (eqb-false w v t) k (at k v + d) (rw t at p))

  pub bounds-derivative : (d : ℕ) → Bounds (shorter d) (derivative v d A)
  unfolding derivative
  bounds-derivative d =
      record {
        some = shorter-some d;
        past = λ w l k p. let c : ℤ = pos (rising (at k v) d) in ap (λ (x : ℤ). c *ℤ x)
            (further_past d w l k p) ∙ *ℤ-zero c;
      }

  pub bounds-expansion : (d : ℕ) → Bounds (shorter d) (expansion v d A)
  unfolding expansion
  bounds-expansion d =
      record {
        some = shorter-some d;
        past = λ w l k p. let c : ℤ = pos (choose (at k v + d) d) in ap
            (λ (x : ℤ). c *ℤ x) (further_past d w l k p) ∙ *ℤ-zero c;
      }

  -- where all rows to d are added up, v itself is not past its length
  first_past : (d w : ℕ) → w < 4 → (k : List ℕ) → at k v ≡ 0 → shorter d w ≤ at k w → (i : ℕ) → A (set k v i) ≡ pos 0
  first_past d w l k z p i =
      decide (eqb w v)
      (λ t.
      let e : w ≡ v = eqb-true w v t in
      let q : max 1 (n w - d) ≤ at k w = rw t at p in
      absurd (let r : 1 ≤ at k v = rw e at (let y : 1 ≤ at k w = omega arith in y) in omega arith))
      (λ t. other-past w l (eqb-false w v t) k i (rw t at p))

  pub bounds-shifted : (d : ℕ) → Bounds (shorter d) (shifted v d A)
  unfolding shifted
  bounds-shifted d =
      record {
        some = shorter-some d;
        past = λ w l k p.
            decide (eqb (at k v) 0)
            (λ t.
            rw t (sum_zeros add_z (λ i. A (set k v i)) (suc d) 0 (λ i x y. first_past d w l k (eqb-true _ _ t) p i)))
            (λ t. rw t (further_past d w l k p));
      }

  -- ---- substitution

  abbrev pub without : ℕ → ℕ
  without w = cond (eqb w v) 1 (n w)

  pub bounds-coefficient : (i : ℕ) → Bounds without (coefficient_of v i A)
  unfolding coefficient_of
  bounds-coefficient i =
      record {
        some = λ w l. decide (eqb w v) (λ t. rw t (omega arith)) (λ t. rw t (f.some w l));
        past = λ w l k p.
            decide (eqb w v)
            (λ t.
            let e : w ≡ v = eqb-true w v t in
            let q : 1 ≤ at k w = rw t at p in
            let r : 1 ≤ at k v = rw e at q in
            rw (ne_eqb (at k v) 0 (λ z. omega arith)))
            (λ t. decide (eqb (at k v) 0) (λ z. rw z (other-past w l (eqb-false w v t) k i (rw t at p))) (λ z. rw z));
      }
