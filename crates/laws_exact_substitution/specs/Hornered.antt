-- Horner's rule on series (document 01, port order 7, `subst_var`: from the highest power, every power counted): what
-- the rows n to n + d - 1 of v have made, and its size.
-- The rows together weigh |A|, and each turn multiplies by |B|: so nothing on the way weighs more than |A| times max(1,
-- |B|) to the p - 1.
use Rattle.std.specs.Prelude.{◌≡◌, List, length, set, ℤ, pos, ◌*ℤ◌}
use Rattle.std.proofs.Common.{sym, ◌∙◌, le_refl, le_of_eq, add-zero, zero-add, mul_assoc}
use Rattle.std.proofs.Math.Path.{ap, ap₂}
use Prim.Native.Nat.{ℕ, zero, suc, ◌+◌, ◌-◌, ◌*◌, ◌^◌, ◌≤◌, ◌<◌}
use Rattle.std.proofs.Math.Nat.{le_trans, add-mul, zero-mul, mul-le-mul_left, mul-le-mul_right, pow-succ', pow-le-pow_right}
use native.Mathlib.Omega.{arith}
use Rattle.std.proofs.Math.ListN.{length-set}
use Rattle.std.proofs.Math.Seq.{set-set}
use Rattle.std.proofs.Math.IntN.{nat_abs, ◌+ℤ◌, +ℤ_idr, zero-*ℤ}
use borrow.Author.Tests.{ne_eqb}
use Rattle.lists.specs.Four.{at, at_same}
use Rattle.model_textbook.specs.Sum.{add_n, add_z, sum_n, sum_z}
use Rattle.model_textbook.specs.Box.{box_n, index_minus}
use Rattle.model_textbook.specs.Textbook.{Series, weight, plus, times, power, coefficient_of, substitute}
use Rattle.laws_whole.specs.SumLaws.{sum_same, sum-only, sum_first, sum_empty}
use Rattle.laws_whole.specs.SumSizes.{sum_n-part}
use Rattle.laws_whole.specs.IndexLaws.{in-box-length}
use Rattle.laws_whole.specs.BoxLaws.{box-same, box-zeros, sum-box}
use Rattle.laws_whole.specs.BoxSizes.{box_n-le}
use Rattle.laws_whole.specs.SeriesLaws.{times-same, powers-step}
use Rattle.laws_whole.specs.SeriesSizes.{weight-plus, weight-times}
use Rattle.laws_exact.specs.Windows.{times_none}
use Rattle.laws_exact.specs.BoxRows.{box-rows}

module _ (v : ℕ) (A B : Series) where
  unfoldable pub running : ℕ → ℕ → Series
  running n d k = sum_z (λ i. times (coefficient_of v (n + i) A) (power B i) k) d 0

  pub running_none : (n : ℕ) (k : List ℕ) → running n 0 k ≡ pos 0
  unfolding running
  running_none n k = sum_empty add_z _ 0

  -- one turn
  pub running-step : (n d : ℕ) (k : List ℕ) → running n (suc d) k ≡ coefficient_of v n A k +ℤ times (running (suc n) d) B k
  unfolding running
  running-step n d k =
      powers-step (λ i. coefficient_of v (n + i) A) B d k
      ∙ ap₂ ◌+ℤ◌ (ap (λ (x : ℕ). coefficient_of v x A k) (add-zero n))
      (times-same _ B _ B k (λ j w. ap (λ (x : ℤ). x *ℤ B (index_minus k j))
      (sum_same add_z _ _ d 0 (λ i x y. let e : n + suc i ≡ suc n + i = omega arith in ap (λ (z : ℕ). times (coefficient_of v z A) (power B i) j) e))))

  -- all rows
  pub running-all : (p : ℕ) (k : List ℕ) → running 0 p k ≡ substitute v p A B k
  unfolding running substitute
  running-all p k = sum_same add_z _ _ p 0 (λ i x y. ap (λ (z : ℕ). times (coefficient_of v z A) (power B i) k) (zero-add i))

  -- one row
  pub substitute-one : (k : List ℕ) → substitute v 1 A B k ≡ coefficient_of v 0 A k
  substitute-one k =
      sym (running-all 1 k)
      ∙ running-step 0 0 k
      ∙ ap (λ (x : ℤ). coefficient_of v 0 A k +ℤ x)
      (times_none (running 1 0) B k (λ j w. ap (λ (x : ℤ). x *ℤ B (index_minus k j)) (running_none 1 j)
      ∙ zero-*ℤ (B (index_minus k j))))
      ∙ +ℤ_idr (coefficient_of v 0 A k)

  -- ---- sizes, over a box ns that holds p rows of v

  module _ (ns : List ℕ) (long : v < length ns) (p : ℕ) (rows : p ≤ at ns v) (pos-p : 1 ≤ p) where
    -- one row
    row-weight : (i : ℕ) → weight ns (coefficient_of v i A) ≡ box_n (set ns v 1) (λ k. nat_abs (A (set k v i)))
    unfolding weight coefficient_of
    row-weight i =
        box-rows add_n _ ns v long
        ∙ box-same add_n _ _ (set ns v 1) (λ k u.
        let here : (j : ℕ) → at (set k v j) v ≡ j = λ j. at_same k v j (rw (in-box-length u ∙ length-set ns v 1) long) in
        sum-only add_n _ (at ns v) 0 0 (le_refl 0) (omega arith) (λ j x y o. rw (here j, ne_eqb j 0 o))
        ∙ (rw (here 0, set-set k v 0 i)))

    -- all rows
    rows-weight : sum_n (λ i. weight ns (coefficient_of v i A)) p 0 ≤ weight ns A
    unfolding weight
    rows-weight =
        le_trans (le_of_eq (sum_same add_n _ _ p 0 (λ i x y. row-weight i) ∙ sum-box add_n (λ i k. nat_abs (A (set k v i))) p 0 (set ns v 1)))
        (le_trans (box_n-le _ _ (set ns v 1) (λ k u. sum_n-part (λ i. nat_abs (A (set k v i))) p 0 (at ns v) 0 (le_refl 0) (omega arith)))
        (le_of_eq (sym (box-rows add_n (λ k. nat_abs (A k)) ns v long))))

    module _ (b : ℕ) (one : 1 ≤ b) (small : weight ns B ≤ b) where
      abbrev W : ℕ → ℕ
      W i = weight ns (coefficient_of v i A)

      step-weight : (n d : ℕ) → weight ns (running n (suc d)) ≤ W n + weight ns (running (suc n) d) * b
      unfolding weight plus
      step-weight n d =
          le_trans (le_of_eq (box-same add_n _ _ ns (λ k u. ap nat_abs (running-step n d k))))
          (le_trans (weight-plus (coefficient_of v n A) (times (running (suc n) d) B) ns)
          (let e : weight ns (times (running (suc n) d) B) ≤ weight ns (running (suc n) d) * b =
          le_trans (weight-times (running (suc n) d) B ns)
          (mul-le-mul_left (weight ns (running (suc n) d)) small) in omega arith))

      rows-sum : (n d : ℕ) → n + d ≤ p → weight ns (running n d) * b ^ n ≤ sum_n W d n * b ^ (p - 1)
      unfolding weight
      rows-sum n zero l = rw (box-zeros add_n (λ k. nat_abs (running n 0 k)) ns (λ k u. ap nat_abs (running_none n k)), zero-mul (b ^ n)) (omega arith)
      rows-sum n (suc d) l =
          let R : ℕ = weight ns (running (suc n) d) in
          let x : weight ns (running n (suc d)) * b ^ n ≤ (W n + R * b) * b ^ n = mul-le-mul_right (b ^ n) (step-weight n d) in
          let y : (W n + R * b) * b ^ n ≡ W n * b ^ n + R * b ^ suc n =
          add-mul (W n) (R * b) (b ^ n) ∙ ap (λ (z : ℕ). W n * b ^ n + z)
          (mul_assoc R b (b ^ n) ∙ ap (λ (z : ℕ). R * z) (sym (pow-succ' b n))) in
          let z : W n * b ^ n ≤ W n * b ^ (p - 1) = mul-le-mul_left (W n) (pow-le-pow_right one (omega arith)) in
          let w : R * b ^ suc n ≤ sum_n W d (suc n) * b ^ (p - 1) = rows-sum (suc n) d (omega arith) in
          let s : sum_n W (suc d) n * b ^ (p - 1) ≡ W n * b ^ (p - 1) + sum_n W d (suc n) * b ^ (p - 1) =
          ap (λ (t : ℕ). t * b ^ (p - 1)) (sum_first add_n W d n) ∙ add-mul (W n) (sum_n W d (suc n)) (b ^ (p - 1)) in
          omega arith

      -- nothing on the way weighs more
      pub running-weight : (n d : ℕ) → n + d ≤ p → weight ns (running n d) * b ^ n ≤ weight ns A * b ^ (p - 1)
      running-weight n d l =
          le_trans (rows-sum n d l) (mul-le-mul_right (b ^ (p - 1)) (le_trans (sum_n-part W d n p 0 (omega arith) (omega arith)) rows-weight))
