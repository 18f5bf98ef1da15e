-- Sums of ℕ and of ℤ over a box: a constant factor out of the sum, and bounds by sums of sizes.
use Rattle.std.specs.Prelude.{◌≡◌, List, [], ◌∷◌, ℕ, ◌*◌, ◌≤◌, ℤ, nat_abs, ◌*ℤ◌}
use Rattle.std.proofs.Common.{le_refl, le_trans, arith}
use Rattle.model_textbook.specs.Box.{box, box_n, box_z}
use Rattle.laws_whole.specs.SumSizes.{factor_n, factor_z, left_factor_z, ordered, sized, sum_n-le, sum_n-term, sum_n-part}
use Rattle.laws_whole.specs.Index.{InBox, Within}
use Rattle.laws_whole.specs.BoxLaws.{box_related, box-through}

pub box_n-times : (f : List ℕ → ℕ) (c : ℕ) (ns : List ℕ) → box_n ns f * c ≡ box_n ns (λ j. f j * c)
box_n-times f c = box-through (factor_n c) f

pub box_z-times : (f : List ℕ → ℤ) (c : ℤ) (ns : List ℕ) → box_z ns f *ℤ c ≡ box_z ns (λ j. f j *ℤ c)
box_z-times f c = box-through (factor_z c) f

pub times-box_z : (c : ℤ) (f : List ℕ → ℤ) (ns : List ℕ) → c *ℤ box_z ns f ≡ box_z ns (λ j. c *ℤ f j)
times-box_z c = box-through (left_factor_z c)

pub box_n-le : (f g : List ℕ → ℕ) (ns : List ℕ) → ((j : List ℕ) → InBox j ns → f j ≤ g j) → box_n ns f ≤ box_n ns g
box_n-le = box_related ordered

-- the size of a sum is the sum of the sizes at most
pub abs-box_z : (e : List ℕ → ℤ) (w : List ℕ → ℕ) (ns : List ℕ) → ((j : List ℕ) → InBox j ns → nat_abs (e j) ≤ w j) → nat_abs (box_z ns e) ≤ box_n ns w
abs-box_z = box_related sized

-- a term is the sum at most
pub box_n-term : (f : List ℕ → ℕ) {j ns : List ℕ} → InBox j ns → f j ≤ box_n ns f
unfolding box
box_n-term f InBox.none = le_refl (f [])
box_n-term f (InBox.more {i = i} {n = n} {j = j} {ns = ns} l u) =
    le_trans (box_n-term (λ k. f (i ∷ k)) u) (sum_n-term (λ i. box_n ns (λ k. f (i ∷ k))) i n 0 (omega arith) (omega arith))

-- a box within another
pub box_n-part : (f : List ℕ → ℕ) {ls ns : List ℕ} → Within ls ns → box_n ls f ≤ box_n ns f
unfolding box
box_n-part f Within.none = le_refl (f [])
box_n-part f (Within.more {i = l} {n = n} {j = ls} {k = ns} p u) =
    le_trans (sum_n-le _ _ l 0 (λ i a b. box_n-part (λ j. f (i ∷ j)) u)) (sum_n-part (λ i. box_n ns (λ j. f (i ∷ j))) l 0 n 0 (omega arith) (omega arith))
