-- Horner's rule under a cap (document 02, W10): after each product and each sum of a turn, places at or past the cap
-- are +0.0. Under the bound of document 01 it is the exact substitution cut by box and cap.
use Rattle.std.specs.Prelude.{◌≡◌, true, false, List, ℤ, pos, nat_abs, ◌+ℤ◌}
use Rattle.std.proofs.Math.Path.{sym, ap}
use Rattle.std.proofs.Common.{◌∙◌, le_trans, le_refl, zero-add, mul-le-mul_right, arith}
use Rattle.std.proofs.Math.Bool.{cond}
use Prim.Native.Nat.{ℕ, zero, suc, ◌+◌, ◌≤◌}
use Rattle.std.proofs.Math.IntN.{+ℤ_comm, +ℤ_idl}
use Rattle.lists.specs.Test.{decide}
use Rattle.lists.specs.Four.{at}
use Rattle.model_textbook.specs.Box.{index_minus, up_to}
use Rattle.model.specs.Refusals.{zero_f}
use Rattle.model.specs.Poly.{Block}
use Rattle.model.specs.Add.{joined_block}
use Rattle.model.specs.Product.{constant_block, multiplied}
use Rattle.model.specs.Substitute.{row_at}
use Rattle.model_textbook.specs.Textbook.{Series, series_of, times, coefficient_of, substitute}
use Rattle.model_caps.specs.Cap.{under_cap, capped, cut_at}
use Rattle.laws_whole.specs.BoxSizes.{box_n-le}
use Rattle.laws_whole.specs.SeriesLaws.{times-same}
use Rattle.laws_whole.specs.SeriesSizes.{sizes, abs-times}
use Rattle.laws_keeps.specs.Sits.{Sits, sits_self}
use Rattle.laws_keeps.specs.Keeps.{joined-under}
use Rattle.laws_exact.specs.Generals.{Fits}
use Rattle.laws_exact.specs.Wholes.{Is, is_same_lem, wholes-is}
use Rattle.laws_exact.specs.Joins.{Room, joined_is}
use Rattle.laws_exact.specs.Multiplied.{zero_is}
use Rattle.laws_exact.proofs.Multiplied.{multiplied-is}
use Rattle.laws_keeps.specs.ProductKeeps.{constant-sits}
use Rattle.laws_keeps.proofs.Running.{multiplied-sits}
use Rattle.laws_keeps.specs.SubstituteKeeps.{row-sits}
use Rattle.laws_exact_substitution.specs.Rowed.{row_is}
use Rattle.laws_exact_substitution.specs.Hornered.{running, running_none, running-step, running-all}
use Rattle.laws_exact_substitution.specs.Horners.{Puts, small, fits}
use Rattle.laws_truncation.specs.Caps.{cap-down}
use Rattle.laws_caps.specs.Capped.{capped-sits, capped_is, capped_twice}
use Rattle.laws_caps.specs.Sums.{sum_inside}

-- the definition that takes the place of `horner`
unfoldable pub horner_under : ℕ → List ℕ → ℕ → Block → ℕ → Block → Block → Block
horner_under c l v a zero b res = res
horner_under c l v a (suc n) b res = horner_under c l v a n b (capped c (joined_block false (capped c (multiplied l res b)) (row_at l v a n)))

-- ---- series

cut-size : (c : ℕ) (A : Series) (k : List ℕ) → nat_abs (cut_at c A k) ≤ nat_abs (A k)
unfolding cut_at
cut-size c A k = decide (under_cap c k) (λ u. rw u (le_refl _)) (λ u. rw u (omega arith))

sizes-cut : (c : ℕ) (A B : Series) (k : List ℕ) → sizes (cut_at c A) B k ≤ sizes A B k
unfolding sizes
sizes-cut c A B k = box_n-le _ _ (up_to k) (λ j u. mul-le-mul_right (nat_abs (B (index_minus k j))) (cut-size c A j))

times_cut : (c : ℕ) (A B : Series) (k : List ℕ) → under_cap c k ≡ true → times (cut_at c A) B k ≡ times A B k
unfolding cut_at
times_cut c A B k u = times-same (cut_at c A) B A B k (λ j w. rw (cap-down c w u))

cut_twice : (c : ℕ) (Z M : Series) (k : List ℕ) → Z k ≡ cut_at c M k → cut_at c Z k ≡ cut_at c M k
unfolding cut_at
cut_twice c Z M k e = decide (under_cap c k) (λ u. rw u (e ∙ rw u)) (λ u. rw u)

module _ (c : ℕ) {l : List ℕ} {v : ℕ} {a b : Block} {x y : ℕ → ℤ} (g : Puts l v a b x y) where
  abbrev A : Series
  A = series_of a.lengths x

  abbrev B : Series
  B = series_of b.lengths y

  abbrev p : ℕ
  p = at a.lengths v

  abbrev made : ℕ → ℕ → Series
  made = running v A B

  module _ (n d : ℕ) (e : suc n + d ≡ p) where
    abbrev X : Series
    X = cut_at c (times (cut_at c (made (suc n) d)) B)

    abbrev R : Series
    R = cut_at c (coefficient_of v n A)

    -- under the cap the turn, past it nothing
    turn-sum : (k : List ℕ) → X k +ℤ R k ≡ cut_at c (made n (suc d)) k
    unfolding cut_at
    turn-sum k =
        decide (under_cap c k)
        (λ u. rw u (ap (λ (z : ℤ). z +ℤ coefficient_of v n A k) (times_cut c (made (suc n) d) B k u) ∙ +ℤ_comm (times (made (suc n) d) B k)
        (coefficient_of v n A k) ∙ sym (running-step v A B n d k)))
        (λ u. rw u (+ℤ_idl (pos 0)))

    fits_cut : Fits l (cut_at c (made (suc n) d)) B
    fits_cut = record { at = λ k f i. le_trans (sizes-cut c (made (suc n) d) B k) ((fits g n d (omega arith)).at k f i) }

    room_cut : Room false l X R
    room_cut = record {
      left = λ k f i. le_trans (cut-size c (times (cut_at c (made (suc n) d)) B) k) (le_trans (abs-times (cut_at c (made (suc n) d)) B k) (fits_cut.at k f i));
      both = λ k f i. rw (turn-sum k) (le_trans (cut-size c (made n (suc d)) k) (small g n (suc d) (omega arith) k f));
    }

    module _ {res : Block} (r : Sits l res) (i : Is l res (cut_at c (made (suc n) d))) where
      abbrev next : Block
      next = multiplied l res b

      next-sits : Sits l next
      next-sits = multiplied-sits l res b g.pos_l r.lo g.right.lo

      row_in : Sits l (row_at l v a n)
      row_in = row-sits l v a g.var g.pos_l g.left.lo n

      turn_is : Is l (capped c (joined_block false (capped c next) (row_at l v a n))) (cut_at c (made n (suc d)))
      turn_is =
          let row = row_at l v a n in
          let q : capped c (joined_block false (capped c next) (capped c row)) ≡ capped c (joined_block false (capped c next) row) =
          ap (λ (z : Block). capped c (joined_block false z (capped c row))) (sym (capped_twice c next next-sits.full)) ∙ sum_inside c false
          (capped-sits c next-sits) row_in in
          rw (← q)
          (is_same_lem (λ k f j. cut_twice c (λ k. X k +ℤ R k) (made n (suc d)) k (turn-sum k))
          (capped_is c
          (joined_is false (capped-sits c next-sits) (capped-sits c row_in)
          (capped_is c (multiplied-is g.pos_l (sits_self r) g.right i (wholes-is g.wholes_right l) fits_cut))
          (capped_is c (row_is l v g.var g.wholes_left n (omega arith)))
          room_cut)))

      turn-sits : Sits l (capped c (joined_block false (capped c next) (row_at l v a n)))
      turn-sits = capped-sits c (joined-under false (capped-sits c next-sits) row_in)

  horner-is : (n d : ℕ) → n + d ≡ p → {res : Block} → Sits l res → Is l res (cut_at c (made n d))
      → Is l (horner_under c l v a n b res) (cut_at c (substitute v p A B))
  unfolding horner_under cut_at
  horner-is zero d e r i =
      is_same_lem (λ k f j. ap (λ (z : ℤ). cond (under_cap c k) z (pos 0)) (ap (λ (z : ℕ). made 0 z k) (sym (zero-add d) ∙ e) ∙ running-all v A B p k)) i
  horner-is (suc n) d e r i = horner-is n (suc d) (omega arith) (turn-sits n d e r i) (turn_is n d e r i)

  -- from a zero of stored count 1
  pub horner-all-is : Is l (horner_under c l v a p b (constant_block zero_f)) (cut_at c (substitute v p A B))
  unfolding cut_at
  horner-all-is =
      horner-is p 0 (omega arith) (constant-sits zero_f (row-sits l v a g.var g.pos_l g.left.lo 0))
      (zero_is (λ k f i. decide (under_cap c k) (λ u. rw u (running_none v A B p k)) (λ u. rw u)))
