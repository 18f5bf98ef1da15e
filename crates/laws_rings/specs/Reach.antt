-- The indices that a result reaches, below its limits and its cap (document 02, W10), and series that agree there.
use Rattle.std.specs.Prelude.{◌≡◌, true, List, ℕ, ◌≤◌, ◌<◌, ltb, length, nat_abs}
use Rattle.std.proofs.Common.{sym, ap, ◌∙◌, le_trans, le_refl, le_of_eq, arith, lit<, ltb-true, ltb-false}
use Rattle.lists.specs.Test.{decide}
use Rattle.lists.specs.Four.{at}
use Rattle.model.specs.declared.Header.{Header}
use Rattle.model.specs.Header.{limit}
use Rattle.model_textbook.specs.Textbook.{Series, weight}
use Rattle.model_caps.specs.Cap.{under_cap, cut_at}
use Rattle.laws_whole.specs.Index.{InBox}
use Rattle.laws_whole.specs.IndexLaws.{within-length}
use Rattle.laws_whole.specs.BoxSizes.{box_n-le}
use Rattle.shape_words.specs.Lengths.{Inside, inside-at}
use Rattle.laws_truncation.specs.Agree.{Down, Agree}
use Rattle.laws_truncation.specs.Caps.{within-at, cap-down}

-- in the variables that the header has; what it lacks, another operand may have
pub record Reach (h : Header) (c : ℕ) (k : List ℕ) : Type 0 where
  pub len : length k ≡ 4
  pub box : (v : ℕ) → v < 4 → v < h.vars → at k v < limit h v
  pub cap : under_cap c k ≡ true

pub reach-down : {h : Header} {c : ℕ} → Down (Reach h c)
reach-down {h} {c} = record {
  down = λ w d.
      record { len = within-length w ∙ d.len; box = λ v l m. omega (arith, within-at w v, d.box v l m); cap = cap-down c w d.cap };
}

pub reach-inside : {h : Header} {c : ℕ} {k : List ℕ} → length k ≡ 4 → Inside h.limits k → under_cap c k ≡ true → Reach h c k
reach-inside f i u = record { len = f; box = λ v l m. inside-at i v l; cap = u }

-- inside, or at or past one of the limits
pub inside_or : {P : Type 0} (l k : List ℕ) → (Inside l k → P) → ((v : ℕ) → v < 4 → at l v ≤ at k v → P) → P
inside_or l k f g =
    decide (ltb (at k 0) (at l 0))
    (λ a. decide (ltb (at k 1) (at l 1))
    (λ b. decide (ltb (at k 2) (at l 2))
    (λ c. decide (ltb (at k 3) (at l 3))
    (λ d. f (record { i0 = ltb-true _ _ a; i1 = ltb-true _ _ b; i2 = ltb-true _ _ c; i3 = ltb-true _ _ d }))
    (λ d. g 3 (lit< tt) (ltb-false _ _ d)))
    (λ c. g 2 (lit< tt) (ltb-false _ _ c)))
    (λ b. g 1 (lit< tt) (ltb-false _ _ b)))
    (λ a. g 0 (lit< tt) (ltb-false _ _ a))

-- under the cap a series that is cut is as it was
pub cut-under : (c : ℕ) (A : Series) {k : List ℕ} → under_cap c k ≡ true → cut_at c A k ≡ A k
unfolding cut_at
cut-under c A u = rw u

-- and what agrees there is the same once cut
pub cut-alike : {h : Header} {c : ℕ} {A B : Series} → Agree (Reach h c) A B → (k : List ℕ) → length k ≡ 4 → Inside h.limits k → cut_at c A k ≡ cut_at c B k
unfolding cut_at
cut-alike {h} {c} e k f i = decide (under_cap c k) (λ u. rw u (e.at k (reach-inside f i u))) (λ u. rw u)

-- a cap makes nothing larger
cut-size : (c : ℕ) (A : Series) (k : List ℕ) → nat_abs (cut_at c A k) ≤ nat_abs (A k)
unfolding cut_at
cut-size c A k = decide (under_cap c k) (λ u. rw u (le_refl _)) (λ u. rw u (omega arith))

-- nor than a series that it agrees with on the box
pub cut-least : (c : ℕ) (A B : Series) (n : List ℕ) → ((k : List ℕ) → InBox k n → B k ≡ A k) → weight n (cut_at c A) ≤ weight n B
unfolding weight
cut-least c A B n h = box_n-le _ (λ k. nat_abs (B k)) n (λ k u. le_trans (cut-size c A k) (le_of_eq (ap nat_abs (sym (h k u)))))
