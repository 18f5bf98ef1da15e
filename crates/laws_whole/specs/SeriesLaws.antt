-- The laws of the textbook product: it is commutative and associative, distributes over sums, and has one.
use Rattle.std.specs.Prelude.{◌≡◌, List, Bool, true, false, cond, ℕ, suc, ◌+◌, eqb, ℤ, pos, ◌+ℤ◌, ◌*ℤ◌}
use Rattle.std.proofs.Common.{sym, ap, ap₂, ◌∙◌, arith, eq-eqb, ne_eqb}
use Rattle.std.proofs.Math.IntN.{+ℤ_idl, +ℤ_idr, *ℤ_comm, *ℤ-zero}
use Rattle.model_textbook.specs.Sum.{add_z, sum_z}
use Rattle.model_textbook.specs.Box.{box_z, up_to, index_plus, index_minus, degree}
use Rattle.model_textbook.specs.Textbook.{Series, plus, times, one, power, rest}
use Rattle.laws_whole.specs.Int.{*ℤ-assoc, left_distrib, *ℤ-unit}
use Rattle.laws_whole.specs.SumLaws.{sum_first, sum-shift, sum_same}
use Rattle.laws_whole.specs.SumSizes.{sum_z-times}
use Rattle.laws_whole.specs.Index.{Within}
use Rattle.laws_whole.specs.BoxLaws.{box-same, box-only, box-plus, box_reverse, box_triangle, sum-box}
use Rattle.laws_whole.specs.BoxSizes.{box_z-times, times-box_z}
use Rattle.laws_whole.specs.IndexLaws.{within-up_to, up_to-within, within_self, within-length, minus-length}
use Rattle.laws_whole.specs.IndexLaws.{minus_minus, up_to-minus, add-minus, minus-add, degree-none, degree_self}

-- products that agree term by term
pub times-same : (A B C D : Series) (k : List ℕ)
    → ((j : List ℕ) → Within j k → A j *ℤ B (index_minus k j) ≡ C j *ℤ D (index_minus k j)) → times A B k ≡ times C D k
unfolding times
times-same A B C D k h = box-same add_z _ _ (up_to k) (λ j u. h j (within-up_to j k u))

pub times-comm : (A B : Series) (k : List ℕ) → times A B k ≡ times B A k
unfolding times
times-comm A B k =
    box_reverse add_z (λ j. A j *ℤ B (index_minus k j)) k
    ∙ box-same add_z _ _ (up_to k) (λ j u. ap (λ (i : List ℕ). A (index_minus k j) *ℤ B i) (minus_minus (within-up_to j k u)) ∙ *ℤ_comm (A
    (index_minus k j)) (B j))

pub times-plus : (A B C : Series) (k : List ℕ) → times A (plus B C) k ≡ times A B k +ℤ times A C k
unfolding times plus
times-plus A B C k =
    box-same add_z _ _ (up_to k) (λ j u. left_distrib (A j) (B (index_minus k j)) (C (index_minus k j)))
    ∙ box-plus add_z (λ j. A j *ℤ B (index_minus k j)) (λ j. A j *ℤ C (index_minus k j)) (up_to k)

pub times-assoc : (A B C : Series) (k : List ℕ) → times (times A B) C k ≡ times A (times B C) k
unfolding times
times-assoc A B C k =
    box-same add_z _ _ (up_to k) (λ j u. box_z-times (λ i. A i *ℤ B (index_minus j i)) (C (index_minus k j)) (up_to j))
    ∙ box_triangle add_z (λ i j. A i *ℤ B (index_minus j i) *ℤ C (index_minus k j)) (up_to k)
    ∙ box-same add_z _ _ (up_to k) (λ i u.
    let w = within-up_to i k u in
    ap (λ (ns : List ℕ). box_z ns (λ d. A i *ℤ B (index_minus (index_plus i d) i) *ℤ C (index_minus k (index_plus i d)))) (up_to-minus w)
    ∙ box-same add_z _ _ (up_to (index_minus k i)) (λ d v.
    let e = within-length w in
    let h = within-length (within-up_to d (index_minus k i) v) ∙ minus-length k i ∙ sym e in
    ap₂ (λ (p q : List ℕ). A i *ℤ B p *ℤ C q) (add-minus i d h) (minus-add k i d e h)
    ∙ *ℤ-assoc (A i) (B d) (C (index_minus (index_minus k i) d)))
    ∙ sym (times-box_z (A i) (λ d. B d *ℤ C (index_minus (index_minus k i) d)) (up_to (index_minus k i))))

-- by a series of which only the constant is not 0
pub times-constant : (A C : Series) (k : List ℕ) → ((i : List ℕ) → (degree i ≡ 0 → ⊥) → C i ≡ pos 0) → times A C k ≡ A k *ℤ C (index_minus k k)
unfolding times
times-constant A C k h =
    box-only add_z (λ j. A j *ℤ C (index_minus k j)) (up_to-within (within_self k))
    (λ j u d. ap (λ (x : ℤ). A j *ℤ x) (h (index_minus k j) (λ e. d (degree-none (within-up_to j k u) e))) ∙ *ℤ-zero (A j))

-- the constant of a series, without the rest
constant : Series → Series
constant B k = cond (eqb (degree k) 0) (B k) (pos 0)

times-constant_of : (A B : Series) (k : List ℕ) → times A (constant B) k ≡ A k *ℤ B (index_minus k k)
unfolding constant
times-constant_of A B k =
    times-constant A (constant B) k (λ i d. rw (ne_eqb (degree i) 0 d))
    ∙ ap (λ (b : Bool). A k *ℤ cond b (B (index_minus k k)) (pos 0)) (eq-eqb (degree (index_minus k k)) 0 (degree_self k))

pub times-one : (A : Series) (k : List ℕ) → times A one k ≡ A k
unfolding one constant
times-one A k = times-constant_of A (λ i. pos 1) k ∙ *ℤ-unit (A k)

-- x, in the one part or in the other
either : (b : Bool) (x : ℤ) → x ≡ cond b x (pos 0) +ℤ cond b (pos 0) x
either true x = sym (+ℤ_idr x)
either false x = sym (+ℤ_idl x)

-- the constant's part of a product, and the rest's
pub times-rest : (A B : Series) (k : List ℕ) → times A B k ≡ A k *ℤ B (index_minus k k) +ℤ times A (rest B) k
unfolding constant rest plus
times-rest A B k =
    times-same A B A (plus (constant B) (rest B)) k (λ j w. ap (λ (x : ℤ). A j *ℤ x) (either (eqb (degree (index_minus k j)) 0) (B (index_minus k j))))
    ∙ times-plus A (constant B) (rest B) k
    ∙ ap (λ (x : ℤ). x +ℤ times A (rest B) k) (times-constant_of A B k)

-- ---- sums of powers, as a substitution has them

-- a sum out of a product
pub times-sum : (S : ℕ → Series) (n a : ℕ) (B : Series) (k : List ℕ) → times (λ j. sum_z (λ i. S i j) n a) B k ≡ sum_z (λ i. times (S i) B k) n a
unfolding times
times-sum S n a B k =
    box-same add_z _ _ (up_to k) (λ j u. sum_z-times (λ i. S i j) (B (index_minus k j)) n a)
    ∙ sym (sum-box add_z (λ i j. S i j *ℤ B (index_minus k j)) n a (up_to k))

-- Horner: the lowest power apart, and one factor out of the others
pub powers-step : (S : ℕ → Series) (B : Series) (n : ℕ) (k : List ℕ)
    → sum_z (λ i. times (S i) (power B i) k) (suc n) 0 ≡ S 0 k +ℤ times (λ j. sum_z (λ i. times (S (suc i)) (power B i) j) n 0) B k
unfolding power
powers-step S B n k =
    let term : ℕ → ℤ = λ i. times (S i) (power B i) k in
    let next : (i : ℕ) → term (1 + i) ≡ times (times (S (suc i)) (power B i)) B k =
    λ i. let e : 1 + i ≡ suc i = omega arith in ap term e ∙ sym (times-assoc (S (suc i)) (power B i) B k) in
    sum_first add_z term n 0
    ∙ ap (λ (x : ℤ). x +ℤ sum_z term n 1) (times-one (S 0) k)
    ∙ ap (λ (x : ℤ). S 0 k +ℤ x)
    (sym (sum-shift add_z term n 1 0)
    ∙ sum_same add_z _ _ n 0 (λ i p q. next i)
    ∙ sym (times-sum (λ i. times (S (suc i)) (power B i)) n 0 B k))
