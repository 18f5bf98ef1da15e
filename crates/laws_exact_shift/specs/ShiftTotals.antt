-- Document 01, 'Where the result is exact', `shift_down`: the sum of all coefficients is kept, and |A| does not grow.
-- So where |A| is at most 2 ^ 53, the result is a polynomial with whole coefficients again, and `evaluate_all_one` of
-- it is the number that it was.
use Rattle.std.specs.Prelude.{◌≡◌, true, cond, ℕ, suc, ◌+◌, ◌^◌, ◌≤◌, ◌<◌, eqb, ℤ}
use Rattle.std.proofs.Math.Path.{refl, sym, ap}
use Rattle.std.proofs.Common.{◌∙◌, le_of_eq}
use mathlib.Core.List.{List}
use Rattle.std.proofs.Math.Nat.{le_trans, le_refl}
use native.Mathlib.Omega.{arith}
use Rattle.std.proofs.Math.ListN.{length, set, length-set}
use Rattle.std.proofs.Math.Seq.{set-set}
use Rattle.std.proofs.Math.IntN.{nat_abs}
use Rattle.std.specs.Float.Ieee.{eq}
use borrow.Author.Tests.{eqb-true, eqb-false, ne_eqb}
use Rattle.lists.specs.Test.{decide}
use Rattle.lists.specs.Four.{at, four, each, at_same}
use Rattle.model.specs.declared.Family.TheVariants.{Shift}
use Rattle.model.specs.Header.{stored, no_header}
use Rattle.model_textbook.specs.Sum.{add_n, add_z, sum_n, sum_z}
use Rattle.model_textbook.specs.Box.{box_n, box_z}
use Rattle.model.specs.Announced.{announced, single, less_in}
use Rattle.model.specs.Poly.{Poly, block_of}
use Rattle.model.specs.Readings.{sum_to}
use Rattle.model.specs.Shifts.{shift_down_poly}
use Rattle.model_textbook.specs.Textbook.{Series, weight, sum_of_all, shifted}
use Rattle.laws_whole.specs.Whole.{Whole}
use Rattle.laws_whole.specs.Compare.{whole-eq}
use Rattle.laws_whole.proofs.Steps.{whole_list}
use Rattle.laws_whole.specs.SumSizes.{abs-sum_z, sum_n-le}
use Rattle.laws_whole.specs.BoxLaws.{box-same}
use Rattle.laws_whole.specs.BoxSizes.{box_n-le}
use Rattle.laws_whole.specs.IndexLaws.{in-box-length}
use Rattle.laws_whole.specs.StoredLaws.{in-box-inside, weight-stored, total-stored}
use Rattle.shape_words.specs.Rules.{Regular}
use Rattle.shape_words.specs.Lengths.{inside_is}
use Rattle.laws_exact.specs.Wholes.{Wholes}
use Rattle.laws_exact.specs.Firsts.{stored-under}
use Rattle.laws_exact.specs.Factors.{positive}
use Rattle.laws_exact.specs.Sums.{series_in, weight_in}
use Rattle.laws_exact.specs.Results.{Result, result, keeps-sits}
use Rattle.laws_keeps.specs.ShiftKeeps.{shift_head, shift_down-keeps}
use Rattle.laws_exact.specs.BoxRows.{box-rows, gathered}
use Rattle.laws_exact_shift.specs.Shifted.{length-here, beyond, shift_down-exact}

-- `evaluate_all_one` of whole coefficients with |A| at most 2 ^ 53 is the sum of all coefficients
pub evaluated : (p : Poly) → Regular p.head → {a : ℕ → ℤ} → Wholes (block_of p) a → weight_in p a ≤ 2 ^ 53
    → Whole (sum_to p.coeffs (stored p.head)) (sum_of_all p.head.lengths (series_in p a))
unfolding sum_to
evaluated p g {a} u b =
    let four-n = ap length g.ns in
    rw (total-stored p.head.lengths four-n a) (whole_list p.coeffs a (stored p.head) u.at (rw (← weight-stored p.head.lengths four-n a) b))

module _ (v n : ℕ) (p : Poly) (g : Regular p.head) (h : v < 4) (a : ℕ → ℤ) where
  abbrev before : List ℕ
  before = p.head.lengths

  abbrev after : List ℕ
  after = (shift_head v n p g).lengths

  abbrev A : Series
  A = series_in p a

  abbrev S : Series
  S = shifted v n A

  -- but for v the lengths are the same
  same_others : set after v 1 ≡ set before v 1
  unfolding announced single
  same_others =
      each (λ v. set (four (λ w. less_in v n w (at before w))) v 1 ≡ set (four (at before)) v 1) refl refl refl refl v h
      ∙ ap (λ (m : List ℕ). set m v 1) (sym g.ns)

  long_after : v < length after
  unfolding announced single
  long_after = h

  long-before : v < length before
  long-before = rw (ap length g.ns) h

  module _ (k : List ℕ) (f : length k ≡ 4) where
    -- the first row after the shift, and the others
    row_first : S (set k v 0) ≡ sum_z (λ j. A (set k v j)) (suc n) 0
    unfolding shifted
    row_first = rw (at_same k v 0 (rw f h)) (simp set-set)

    row-after : (j : ℕ) → 1 ≤ j → S (set k v j) ≡ A (set k v (n + j))
    unfolding shifted
    row-after j l = let e : j + n ≡ n + j = omega arith in rw (at_same k v j (rw f h), ne_eqb j 0 (λ o. omega arith), set-set k v j (j + n), e)

    row-total : sum_z (λ j. S (set k v j)) (at after v) 0 ≡ sum_z (λ j. A (set k v j)) (at before v) 0
    row-total =
        ap (λ (m : ℕ). sum_z (λ j. S (set k v j)) m 0) (length-here v n p g h)
        ∙ gathered add_z (λ j. A (set k v j)) (λ j. S (set k v j)) n (at before v) row_first row-after (beyond v n p g h a k f)

    -- the sizes of the rows after the shift, the first as the sum of those that it gathers
    size_after : ℕ → ℕ
    size_after j = cond (eqb j 0) (sum_n (λ j. nat_abs (A (set k v j))) (suc n) 0) (nat_abs (A (set k v (n + j))))

    size-after : (j : ℕ) → nat_abs (S (set k v j)) ≤ size_after j
    unfolding size_after
    size-after j =
        decide (eqb j 0)
        (λ t. let e : j ≡ 0 = eqb-true j 0 t in rw (e, row_first) (abs-sum_z _ _ (suc n) 0 (λ j x y. le_refl _)))
        (λ t. rw (t, row-after j (positive j (eqb-false j 0 t))) (le_refl _))

    row-weight : sum_n (λ j. nat_abs (S (set k v j))) (at after v) 0 ≤ sum_n (λ j. nat_abs (A (set k v j))) (at before v) 0
    unfolding size_after
    row-weight =
        le_trans (sum_n-le _ size_after (at after v) 0 (λ j x y. size-after j))
        (le_of_eq (ap (λ (m : ℕ). sum_n size_after m 0) (length-here v n p g h)
        ∙ gathered add_n (λ j. nat_abs (A (set k v j))) size_after n (at before v) refl
        (λ j l. rw (ne_eqb j 0 (λ o. omega arith))) (λ j l. ap nat_abs (beyond v n p g h a k f j l))))

  pub shift_down-total : sum_of_all (shift_down_poly v n p).head.lengths S ≡ sum_of_all before A
  unfolding sum_of_all shift_down_poly
  shift_down-total =
      box-rows add_z S after v long_after
      ∙ ap (λ (m : List ℕ). box_z m (λ k. sum_z (λ j. S (set k v j)) (at after v) 0)) same_others
      ∙ box-same add_z _ _ (set before v 1) (λ k i. row-total k (in-box-length i ∙ length-set before v 1 ∙ ap length g.ns))
      ∙ sym (box-rows add_z A before v long-before)

  shift-weight : weight after S ≤ weight before A
  unfolding weight
  shift-weight =
      le_trans (le_of_eq (box-rows add_n (λ k. nat_abs (S k)) after v long_after
      ∙ ap (λ (m : List ℕ). box_n m (λ k. sum_n (λ j. nat_abs (S (set k v j))) (at after v) 0)) same_others))
      (le_trans (box_n-le _ _ (set before v 1) (λ k i. row-weight k (in-box-length i ∙ length-set before v 1 ∙ ap length g.ns)))
      (le_of_eq (sym (box-rows add_n (λ k. nat_abs (A k)) before v long-before))))

  module _ (u : Wholes (block_of p) a) (bound : weight_in p a ≤ 2 ^ 53) where
    pub shift_down-result : Result (announced (Shift v n) p.head no_header).limits (shift_down_poly v n p) S (weight_in p a)
    unfolding shift_down_poly
    shift_down-result = result (shift_down-keeps v n p g) (record { at = λ k f i. shift_down-exact v n p g h a u bound k f }) shift-weight

    -- and `evaluate_all_one` is the same number
    pub shift_down_evaluated : eq (sum_to (shift_down_poly v n p).coeffs (stored (shift_down_poly v n p).head)) (sum_to p.coeffs (stored p.head)) ≡ true
    unfolding sum_of_all
    shift_down_evaluated =
        let q = shift_down_poly v n p in
        let k = shift_down-keeps v n p g in
        let r = shift_down-result in
        let e = ap length k.regular.ns in
        (whole-eq (evaluated q k.regular r.wholes (le_trans r.light bound)) (evaluated p g u bound)).1
        (box-same add_z _ _ q.head.lengths (λ i b.
        r.agrees i (in-box-length b ∙ e) (stored-under (keeps-sits k)
        (inside_is q.head.lengths i (in-box-inside q.head.lengths e b)))) ∙ shift_down-total)
