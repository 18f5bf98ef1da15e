-- The region of a box and a cap (document 02, W10: exact results are cut by box and cap), and truncation to it.
use Rattle.std.specs.Prelude.{◌≡◌, refl, true, false, List, ℕ, zero, suc, ◌≤◌, ◌<◌, min, ltb, eqb}
use Rattle.std.proofs.Common.{le_refl, arith, ltb-true, lt-ltb, ne_eqb}
use Rattle.std.proofs.lemmas.Bool.{eqb-false}
use Rattle.lists.specs.Test.{decide, or_right, or_intro}
use Rattle.lists.specs.Four.{at}
use Rattle.model_textbook.specs.Box.{degree}
use Rattle.model.specs.Places.{inside}
use Rattle.model_textbook.specs.Textbook.{Series, truncated}
use Rattle.model.specs.Cap.{min_cap}
use Rattle.model_caps.specs.Cap.{under_cap, cut_at}
use Rattle.shape_words.specs.Lengths.{inside_is, is_inside_lem, inside-four, inside-at}
use Rattle.laws_whole.specs.Index.{Within}
use Rattle.laws_whole.specs.IndexLaws.{degree-minus}
use Rattle.laws_truncation.specs.Agree.{Down, Agree}

-- below the limits and the cap
pub record Region (l : List ℕ) (c : ℕ) (k : List ℕ) : Type 0 where
  pub box : inside l k ≡ true
  pub cap : under_cap c k ≡ true

pub within-at : {j k : List ℕ} → Within j k → (v : ℕ) → at j v ≤ at k v
within-at Within.none v = le_refl _
within-at (Within.more l u) zero = l
within-at (Within.more l u) (suc v) = within-at u v

within-degree : {j k : List ℕ} → Within j k → degree j ≤ degree k
within-degree w = omega (arith, degree-minus w)

below : (i k n : ℕ) → i ≤ k → ltb k n ≡ true → ltb i n ≡ true
below i k n h e = lt-ltb i n (omega (arith, ltb-true k n e))

box-down : (l : List ℕ) {j k : List ℕ} → Within j k → inside l k ≡ true → inside l j ≡ true
box-down l {j} {k} w h = is_inside_lem (inside-four (λ v m. omega (arith, within-at w v, inside-at (inside_is l k h) v m)))

pub cap-down : (c : ℕ) {j k : List ℕ} → Within j k → under_cap c k ≡ true → under_cap c j ≡ true
cap-down c {j} {k} w h =
    or_intro (eqb c 0) (ltb (degree j) c) (λ e. below (degree j) (degree k) c (within-degree w) (or_right (eqb c 0) (ltb (degree k) c) h e))

pub region-down : (l : List ℕ) (c : ℕ) → Down (Region l c)
region-down l c = record { down = λ w d. record { box = box-down l w d.box; cap = cap-down c w d.cap } }

-- truncated by box and cap
unfoldable pub cut_to : List ℕ → ℕ → Series → Series
cut_to l c A = truncated l (cut_at c A)

pub cut-agrees : {D : List ℕ → Type 0} (l : List ℕ) (c : ℕ) (A : Series) → ((k : List ℕ) → D k → Region l c k) → Agree D (cut_to l c A) A
unfolding cut_to truncated cut_at
cut-agrees l c A h = record { at = λ k d. let r = h k d in rw (r.box, r.cap) }

-- and what agrees there is truncated to the same series
pub cut-same : (l : List ℕ) (c : ℕ) {A B : Series} → Agree (Region l c) A B → (k : List ℕ) → cut_to l c A k ≡ cut_to l c B k
unfolding cut_to truncated cut_at
cut-same l c {A} {B} e k =
    decide (inside l k)
    (λ t. rw t (decide (under_cap c k) (λ u. rw u (e.at k (record { box = t; cap = u }))) (λ u. rw u)))
    (λ t. rw t)

-- ---- caps

positive : (n : ℕ) → (n ≡ 0 → ⊥) → 0 < n
positive zero h = absurd (h refl)
positive (suc n) h = omega arith

-- 0 is none: an index lies under the smaller cap present where it lies under both
pub min_cap_lem : (a b : ℕ) (k : List ℕ) → under_cap (min_cap a b) k ≡ true → (under_cap a k ≡ true) × (under_cap b k ≡ true)
unfolding min_cap
min_cap_lem a b k h =
    decide (eqb a 0)
    (λ t. (rw t, rw t at h))
    (λ t. decide (eqb b 0)
    (λ u. (rw (t, u) at h, rw u))
    (λ u.
    let m : under_cap (min a b) k ≡ true = rw (t, u) at h in
    let p : 0 < a = positive a (eqb-false a 0 t) in
    let q : 0 < b = positive b (eqb-false b 0 u) in
    let z : eqb (min a b) 0 ≡ false = ne_eqb (min a b) 0 (λ e. omega arith) in
    let s : degree k < min a b = ltb-true _ _ (or_right (eqb (min a b) 0) (ltb (degree k) (min a b)) m z) in (
      or_intro (eqb a 0) (ltb (degree k) a) (λ _. lt-ltb (degree k) a (omega arith)),
      or_intro (eqb b 0) (ltb (degree k) b)
          (λ _. lt-ltb (degree k) b (omega arith)),
    )))
