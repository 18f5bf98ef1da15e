-- Sizes of textbook products: what document 01 bounds, |A| |B|, bounds the sizes of all terms of all places.
use Rattle.std.proofs.Common.{sym, ap, ◌∙◌, le_trans, le_of_eq, mul_comm, mul-le-mul_left}
use Rattle.std.specs.Prelude.{List, ℕ, ◌+◌, ◌*◌, ◌≤◌, nat_abs}
use Rattle.model_textbook.specs.Sum.{add_n}
use Rattle.model_textbook.specs.Box.{box_n, up_to, index_plus, index_minus}
use Rattle.model_textbook.specs.Textbook.{Series, weight, plus, times}
use Rattle.laws_whole.specs.Int.{abs-add, abs-mul}
use Rattle.laws_whole.specs.Index.{InBox}
use Rattle.laws_whole.specs.BoxLaws.{box-same, box-plus, box_triangle}
use Rattle.laws_whole.specs.BoxSizes.{box_n-times, box_n-le, abs-box_z, box_n-term, box_n-part}
use Rattle.laws_whole.specs.IndexLaws.{in-box-length, minus-length, minus-within, add-minus}

-- the sizes of the terms that the product sums at k
unfoldable pub sizes : Series → Series → List ℕ → ℕ
sizes A B k = box_n (up_to k) (λ j. nat_abs (A j) * nat_abs (B (index_minus k j)))

pub abs-times : (A B : Series) (k : List ℕ) → nat_abs (times A B k) ≤ sizes A B k
unfolding times sizes
abs-times A B k = abs-box_z _ _ (up_to k) (λ j u. le_of_eq (abs-mul (A j) (B (index_minus k j))))

-- over every place of a box
pub sizes-all : (A B : Series) (ns : List ℕ) → box_n ns (sizes A B) ≤ weight ns A * weight ns B
unfolding sizes weight
sizes-all A B ns =
    le_trans (le_of_eq (box_triangle add_n (λ i k. nat_abs (A i) * nat_abs (B (index_minus k i))) ns))
    (le_trans (box_n-le _ (λ i. nat_abs (A i) * box_n ns (λ d. nat_abs (B d))) ns (λ i u. row i u))
    (le_of_eq (sym (box_n-times (λ i. nat_abs (A i)) (box_n ns (λ d. nat_abs (B d))) ns))))
  where
    row : (i : List ℕ) → InBox i ns → box_n (index_minus ns i)
        (λ d. nat_abs (A i) * nat_abs (B (index_minus (index_plus i d) i))) ≤ nat_abs (A i) * box_n ns (λ d. nat_abs (B d))
    row i u =
        le_trans
        (le_of_eq
        (box-same add_n _ (λ d. nat_abs (B d) * nat_abs (A i)) (index_minus ns i) (λ d v.
        ap (λ (x : List ℕ). nat_abs (A i) * nat_abs (B x)) (add-minus i d (in-box-length v ∙ minus-length ns i ∙ sym (in-box-length u)))
        ∙ mul_comm (nat_abs (A i)) (nat_abs (B d)))
        ∙ sym (box_n-times (λ d. nat_abs (B d)) (nat_abs (A i)) (index_minus ns i))
        ∙ mul_comm (box_n (index_minus ns i) (λ d. nat_abs (B d))) (nat_abs (A i))))
        (mul-le-mul_left (nat_abs (A i)) (box_n-part (λ d. nat_abs (B d)) (minus-within ns i)))

-- at one place
pub sizes-le : (A B : Series) {k ns : List ℕ} → InBox k ns → sizes A B k ≤ weight ns A * weight ns B
sizes-le A B {ns = ns} u = le_trans (box_n-term (sizes A B) u) (sizes-all A B ns)

pub weight-times : (A B : Series) (ns : List ℕ) → weight ns (times A B) ≤ weight ns A * weight ns B
unfolding weight
weight-times A B ns = le_trans (box_n-le _ _ ns (λ k u. abs-times A B k)) (sizes-all A B ns)

pub weight-plus : (A B : Series) (ns : List ℕ) → weight ns (plus A B) ≤ weight ns A + weight ns B
unfolding weight plus
weight-plus A B ns =
    le_trans (box_n-le _ (λ k. nat_abs (A k) + nat_abs (B k)) ns (λ k u. abs-add (A k) (B k)))
    (le_of_eq (box-plus add_n (λ k. nat_abs (A k)) (λ k. nat_abs (B k)) ns))

-- a coefficient
pub weight-at : (A : Series) {k ns : List ℕ} → InBox k ns → nat_abs (A k) ≤ weight ns A
unfolding weight
weight-at A u = box_n-term (λ k. nat_abs (A k)) u
