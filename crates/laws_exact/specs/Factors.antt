-- The exact product by a factor of which little is not zero (document 01, port order 4): by a constant it is the other
-- times c; by a line c + m v it is m times the other shifted up by one in v, and the other times c. Of a factor only
-- what lies up to the index counts.
use Rattle.std.specs.Prelude.{◌≡◌, refl, cond, ℕ, ◌-◌, ◌*◌, ◌≤◌, ◌<◌, eqb, length, set, ℤ, pos, nat_abs, ◌+ℤ◌}
use Rattle.std.proofs.Common.{sym, ◌∙◌, mul_comm, mul-le-mul_left, arith, length-set}
use Rattle.std.proofs.Math.Path.{ap, ap₂}
use mathlib.Core.List.{List}
use Rattle.std.proofs.Math.Nat.{sub-zero}
use Rattle.std.proofs.Math.IntN.{◌*ℤ◌, zero-*ℤ, *ℤ_comm, +ℤ_comm}
use borrow.Author.Tests.{eqb-true, eqb-false, ne_eqb}
use Rattle.lists.specs.Test.{decide}
use Rattle.lists.specs.Four.{at, four, each, one-changed}
use Rattle.model_textbook.specs.Sum.{add_n, add_z}
use Rattle.model_textbook.specs.Box.{up_to, index_minus, degree}
use Rattle.model_textbook.specs.Textbook.{Series, times, origin, rest}
use Rattle.laws_whole.specs.Index.{Within}
use Rattle.laws_whole.specs.IndexLaws.{within-length, up_to-within, within-up_to, minus_minus, minus_self, four_at_lem}
use Rattle.laws_whole.specs.BoxLaws.{box-only, box-same, box_reverse}
use Rattle.laws_whole.specs.BoxSizes.{box_n-le, box_n-term}
use Rattle.laws_whole.specs.SeriesLaws.{times-comm, times-rest}
use Rattle.laws_whole.specs.SeriesSizes.{sizes}
use Rattle.laws_exact.specs.Windows.{degree-origin, within-at, at-within, times_none}

pub positive : (n : ℕ) → (n ≡ 0 → ⊥) → 1 ≤ n
positive n o = omega arith

-- ---- sizes

pub sizes-comm : (A B : Series) (k : List ℕ) → sizes A B k ≡ sizes B A k
unfolding sizes
sizes-comm A B k =
    box_reverse add_n (λ j. nat_abs (A j) * nat_abs (B (index_minus k j))) k
    ∙ box-same add_n _ _ (up_to k) (λ j u. ap (λ (i : List ℕ). nat_abs (A (index_minus k j)) * nat_abs (B i))
    (minus_minus (within-up_to j k u)) ∙ mul_comm (nat_abs (A (index_minus k j))) (nat_abs (B j)))

-- one term
pub sizes-term : (A B : Series) {j k : List ℕ} → Within j k → nat_abs (A j) * nat_abs (B (index_minus k j)) ≤ sizes A B k
unfolding sizes
sizes-term A B {k = k} w = box_n-term (λ j. nat_abs (A j) * nat_abs (B (index_minus k j))) (up_to-within w)

-- of a factor that is smaller everywhere
pub sizes-less : (A B C : Series) (k : List ℕ) → ((j : List ℕ) → nat_abs (C j) ≤ nat_abs (B j)) → sizes A C k ≤ sizes A B k
unfolding sizes
sizes-less A B C k h = box_n-le _ _ (up_to k) (λ j u. mul-le-mul_left (nat_abs (A j)) (h (index_minus k j)))

-- ---- one term

pub times-only : (A B : Series) {e k : List ℕ} → Within e k → ((j : List ℕ) → Within j k → (j ≡ e → ⊥) → A j ≡ pos 0) → times A B k ≡ A e *ℤ B (index_minus k e)
unfolding times
times-only A B {k = k} w h =
    box-only add_z (λ j. A j *ℤ B (index_minus k j)) (up_to-within w)
    (λ j u o. ap (λ (x : ℤ). x *ℤ B (index_minus k j)) (h j (within-up_to j k u) o) ∙ zero-*ℤ (B (index_minus k j)))

-- ---- the constant

pub origin-within : (k : List ℕ) → length k ≡ 4 → Within origin k
origin-within k f = at-within origin k (sym f) (λ v h. each (λ v. at origin v ≤ at k v) (omega arith) (omega arith) (omega arith) (omega arith) v (rw f at h))

pub minus-origin : (k : List ℕ) → length k ≡ 4 → index_minus k origin ≡ k
unfolding index_minus
minus-origin k f = ap (λ (i : List ℕ). index_minus i origin) (four_at_lem k f) ∙ (simp sub-zero) ∙ sym (four_at_lem k f)

-- a factor that is zero but for its constant
pub times-first : (A B : Series) (k : List ℕ) → length k ≡ 4 → ((j : List ℕ) → Within j k → (j ≡ origin → ⊥) → A j ≡ pos 0) → times A B k ≡ A origin *ℤ B k
times-first A B k f h = times-only A B (origin-within k f) h ∙ ap (λ (i : List ℕ). A origin *ℤ B i) (minus-origin k f)

-- ---- the line

-- the index of v itself
abbrev pub unit : ℕ → List ℕ
unit v = set origin v 1

-- m times B shifted up by one in v
abbrev pub raised_z : ℕ → ℤ → Series → Series
raised_z v m B k = cond (eqb (at k v) 0) (pos 0) (B (set k v (at k v - 1)) *ℤ m)

-- the constant of a series, without the rest
abbrev pub constant_of : Series → Series
constant_of A k = cond (eqb (degree k) 0) (A k) (pos 0)

pub unit-length : (v : ℕ) → length (unit v) ≡ 4
unit-length v = length-set origin v 1

pub unit-same : (v : ℕ) → v < 4 → at (unit v) v ≡ 1
unit-same = each (λ v. at (unit v) v ≡ 1) refl refl refl refl

unit-degree : (v : ℕ) → v < 4 → degree (unit v) ≡ 1
unfolding degree
unit-degree = each (λ v. degree (unit v) ≡ 1) refl refl refl refl

pub unit-within : (k : List ℕ) → length k ≡ 4 → (v : ℕ) → v < 4 → 1 ≤ at k v → Within (unit v) k
unit-within k f v h l =
    at-within (unit v) k (unit-length v ∙ sym f)
    (λ w g. one-changed (λ w x. x ≤ at k w) origin v 1 h l
    (λ w g o. each (λ w. at origin w ≤ at k w) (omega arith) (omega arith) (omega arith) (omega arith) w g) w
    (rw f at g))

pub minus-unit : (k : List ℕ) → length k ≡ 4 → (v : ℕ) → v < 4 → index_minus k (unit v) ≡ set k v (at k v - 1)
unfolding index_minus
minus-unit k f v h =
    ap (λ (i : List ℕ). index_minus i (unit v)) (four_at_lem k f)
    ∙ each (λ v. index_minus (four (at k)) (unit v) ≡ set (four (at k)) v (at k v - 1)) (simp sub-zero) (simp sub-zero) (simp sub-zero) (simp sub-zero) v h
    ∙ ap (λ (i : List ℕ). set i v (at k v - 1)) (sym (four_at_lem k f))

module _ (A B : Series) (k : List ℕ) (f : length k ≡ 4) where
  -- the constant's part
  pub times-constant_of_lem : times (constant_of A) B k ≡ A origin *ℤ B k
  unfolding degree
  times-constant_of_lem =
      times-first (constant_of A) B k f (λ j w o. rw (ne_eqb (degree j) 0 (λ e. o (degree-origin j (within-length w ∙ f) e))))

  module _ (v : ℕ) (h : v < 4) (only : (j : List ℕ) → Within j k → (j ≡ origin → ⊥) → (j ≡ unit v → ⊥) → A j ≡ pos 0) where
    rest-zero : (j : List ℕ) → Within j k → (j ≡ unit v → ⊥) → rest A j ≡ pos 0
    unfolding rest degree
    rest-zero j w o =
        decide (eqb (degree j) 0)
        (λ t. rw t)
        (λ t. rw t (only j w (λ e. eqb-false (degree j) 0 t (ap degree e)) o))

    pub times-unit : times (rest A) B k ≡ raised_z v (A (unit v)) B k
    unfolding rest
    times-unit =
        decide (eqb (at k v) 0)
        (λ t. rw t (times_none (rest A) B k (λ j w.
        ap (λ (x : ℤ). x *ℤ B (index_minus k j)) (rest-zero j w
        (λ e. let z : at k v ≡ 0 = eqb-true _ _ t in
        let y : at j v ≡ 1 = ap (λ (i : List ℕ). at i v) e ∙ unit-same v h in omega (arith, within-at w v)))
        ∙ zero-*ℤ (B (index_minus k j)))))
        (λ t.
        let l : 1 ≤ at k v = positive (at k v) (eqb-false _ _ t) in
        let here : rest A (unit v) ≡ A (unit v) = rw (ne_eqb (degree (unit v)) 0 (λ e. let o = unit-degree v h in omega arith)) in
        rw t
        (times-only (rest A) B (unit-within k f v h l) rest-zero
        ∙ ap₂ ◌*ℤ◌ here (ap B (minus-unit k f v h))
        ∙ *ℤ_comm (A (unit v)) (B (set k v (at k v - 1)))))
