-- Document 01, 'Where the result is exact', `shift_down`: where |A| is at most 2 ^ 53, the coefficients are the whole
-- numbers of the textbook's shift, at every index.
use Rattle.std.specs.Prelude.{◌≡◌, refl, false, List, ℕ, suc, ◌+◌, ◌-◌, ◌^◌, ◌≤◌, ◌<◌, max, leb, eqb, length, set, ℤ, pos, ◌+ℤ◌}
use Rattle.std.proofs.Common.{sym, ap, ◌∙◌, arith, lit<, length-set}
use Rattle.std.proofs.Math.Bool.{true≢false}
use Rattle.std.proofs.Math.Nat.{le_trans, le_refl}
use Rattle.std.proofs.Math.Seq.{set-set}
use Rattle.std.proofs.Math.IntN.{nat_abs, +ℤ_comm}
use borrow.Author.Tests.{leb-true, leb-false, eqb-true, eqb-false, eq-eqb, ne_eqb}
use Rattle.lists.specs.Test.{decide}
use Rattle.lists.specs.Four.{at, at-four, one-changed, at_same, at_other}
use Rattle.model.specs.Places.{inside}
use Rattle.model_textbook.specs.Sum.{add_z, sum_n, sum_z}
use Rattle.model.specs.Announced.{announced, single, less_in}
use Rattle.model.specs.Poly.{Poly, block_of, coefficient_at}
use Rattle.model.specs.Shifts.{in_row, by_index, row_sum, shift_down_poly}
use Rattle.model_textbook.specs.Textbook.{Series, weight, shifted}
use Rattle.laws_whole.specs.Whole.{Whole}
use Rattle.laws_whole.specs.Exact.{whole-add}
use Rattle.laws_whole.proofs.Steps.{whole_sum}
use Rattle.laws_whole.specs.SumLaws.{sum-last, sum_zeros, sum_narrow}
use Rattle.laws_whole.specs.SumSizes.{abs-sum_z, sum_n-part}
use Rattle.laws_whole.specs.Index.{InBox}
use Rattle.laws_whole.specs.StoredLaws.{in-box-inside, below_in-box, stored_past}
use Rattle.shape_words.specs.Rules.{Regular}
use Rattle.shape_words.specs.Lengths.{Inside, inside_is, is_inside_lem, inside-four, inside-at}
use Rattle.laws_exact.specs.Wholes.{Wholes, whole-at, stored_at, index_read, wholes-at}
use Rattle.laws_exact.specs.Sums.{series_in, weight_in}
use Rattle.laws_keeps.specs.ShiftKeeps.{shift_head, shifted_at}
use Rattle.laws_exact.specs.BoxRows.{row-part}

module _ (v n : ℕ) (p : Poly) (g : Regular p.head) (h : v < 4) where
  abbrev before : List ℕ
  before = p.head.lengths

  abbrev after : List ℕ
  after = (shift_head v n p g).lengths

  pub shift-length : (w : ℕ) → w < 4 → at after w ≡ less_in v n w (at before w)
  unfolding announced single
  shift-length = at-four (λ w. less_in v n w (at before w))

  pub length-here : at after v ≡ max 1 (at before v - n)
  length-here = shift-length v h ∙ rw (eq-eqb v v refl)

  length-other : (w : ℕ) → w < 4 → (w ≡ v → ⊥) → at after w ≡ at before w
  length-other w l o = shift-length w l ∙ rw (ne_eqb w v o)

  four-before : length before ≡ 4
  four-before = ap length g.ns

  module _ (k : List ℕ) (f : length k ≡ 4) where
    long-k : v < length k
    long-k = rw f h

    -- a row of what is stored after the shift lies inside the lengths before it, and the other way round
    row_inside : (j : ℕ) → j < at before v → Inside after k → Inside before (set k v j)
    row_inside j l i = inside-four (one-changed (λ w x. x < at before w) k v j long-k l (λ w m o. omega (arith, inside-at i w m, length-other w m o)))

    inside-row : (j : ℕ) → at k v < at after v → Inside before (set k v j) → Inside after k
    inside-row j l i = inside-four (λ w m.
        decide (eqb w v)
        (λ t. let e : w ≡ v = eqb-true w v t in rw e l)
        (λ t. let o = eqb-false w v t in omega (arith, inside-at i w m, at_other k v w j o, length-other w m o)))

  module _ (a : ℕ → ℤ) where
    abbrev A : Series
    A = series_in p a

    module _ (k : List ℕ) (f : length k ≡ 4) where
      past_row : (j : ℕ) → (Inside before (set k v j) → ⊥) → A (set k v j) ≡ pos 0
      past_row j o =
          stored_past before four-before a (set k v j) (length-set k v j ∙ f)
          (λ c. o (inside_is before (set k v j) (in-box-inside before four-before c)))

      -- past the stored rows
      pub beyond : (j : ℕ) → at before v ≤ j → A (set k v j) ≡ pos 0
      beyond j l = past_row j (λ i. let e = at_same k v j (long-k k f) in omega (arith, inside-at i v h))

    module _ (u : Wholes (block_of p) a) (bound : weight_in p a ≤ 2 ^ 53) (k : List ℕ) (f : length k ≡ 4) where
      module _ (i : Inside after k) where
        row : (j : ℕ) → j < at before v → Whole (in_row (block_of p) k v j) (A (set k v j))
        row j l = stored_at (block_of p) (set k v j) (wholes-at u (set k v j)) (row_inside k f j l i)

        start : InBox (set k v 0) (set before v 1)
        start = below_in-box (set before v 1) (length-set before v 1 ∙ four-before) (set k v 0) (length-set k v 0 ∙ f) (λ w m.
            decide (eqb w v)
            (λ t. let e : w ≡ v = eqb-true w v t in rw (e, at_same k v 0 (long-k k f), at_same before v 1 (rw four-before h)) (lit< tt))
            (λ t. let o = eqb-false w v t in rw (at_other k v w 0 o, at_other before v w 1 o) (omega (arith, inside-at i w m, length-other w m o))))

        row_small : (m : ℕ) → m ≤ at before v → sum_n (λ j. nat_abs (A (set k v j))) m 0 ≤ 2 ^ 53
        unfolding weight
        row_small m l =
            le_trans (sum_n-part (λ j. nat_abs (A (set k v j))) m 0 (at before v) 0 (omega arith) (omega arith))
            (le_trans (simp set-set at (row-part (λ k. nat_abs (A k)) before v (rw four-before h) start)) bound)

        rows : (m : ℕ) → m ≤ at before v → Whole (row_sum v n p m k) (sum_z (λ j. A (set k v j)) m 0)
        unfolding row_sum
        rows m l = whole_sum (in_row (block_of p) k v) (λ j. A (set k v j)) m 0 (λ j x y. row j (omega arith)) (row_small m l)

        last : sum_z (λ j. A (set k v j)) (suc n) 0 ≡ A (set k v n) +ℤ sum_z (λ j. A (set k v j)) n 0
        last = let e : 0 + n ≡ n = omega arith in sum-last add_z (λ j. A (set k v j)) n 0 ∙ rw e (+ℤ_comm (sum_z (λ j. A (set k v j)) n 0) (A (set k v n)))

        stored : Whole (shifted_at v n p g k) (shifted v n A k)
        unfolding shifted
        stored =
            decide (leb (at before v) (n + 1))
            (λ t.
            let l = leb-true (at before v) (n + 1) t in
            let z : at k v ≡ 0 = omega (arith, inside-at i v h, length-here) in
            rw (
              t,
              eq-eqb (at k v) 0 z,
              sum_narrow add_z (λ j. A (set k v j)) (at before v) (suc n) (omega arith) (λ j x y. beyond k f j x),
            ) (rows (at before v) (omega arith)))
            (λ t.
            let l = leb-false (at before v) (n + 1) t in
            rw t (decide (eqb (at k v) 0)
            (λ z. rw (
              z,
              last,
            ) (whole-add (row n (omega arith)) (rows n (omega arith))
            (rw (← last) (le_trans (abs-sum_z _ _ (suc n) 0 (λ j x y. le_refl _))
            (row_small (suc n) (omega arith))))))
            (λ z. rw z (row (at k v + n) (omega (arith, inside-at i v h, length-here))))))

      past : inside after k ≡ false → shifted v n A k ≡ pos 0
      unfolding shifted
      past t =
          let no : Inside after k → ⊥ = λ i. true≢false (sym (is_inside_lem i) ∙ t) in
          decide (eqb (at k v) 0)
          (λ z. rw z (sum_zeros add_z (λ j. A (set k v j)) (suc n) 0
          (λ j x y. past_row k f j
          (λ i. no (inside-row k f j (omega (arith, eqb-true (at k v) 0 z, length-here)) i)))))
          (λ z. rw z (past_row k f (at k v + n) (λ i.
          no (inside-row k f (at k v + n) (let e = at_same k v (at k v + n) (long-k k f) in
          omega (arith, inside-at i v h, length-here)) i))))

      pub shift_down-exact : Whole (coefficient_at (block_of (shift_down_poly v n p)) k) (shifted v n A k)
      unfolding shift_down_poly
      shift_down-exact = whole-at (by_index (shift_head v n p g) (shifted_at v n p g)) k (λ i. rw (index_read after (shifted_at v n p g) k f i) (stored i)) past
