-- The terms that one place of a product sums, by the first variable left (document 01, port order 4, 'General'): the
-- source's range of j leaves out only zeros, and where every later length is 1 the terms are products of two numbers,
-- which the source sums from +0.0 and then adds (`mul_1d`).
use Rattle.std.specs.Prelude.{◌≡◌, ltb, drop, pos, ◌+ℤ◌, ◌*ℤ◌, Float}
use Rattle.std.proofs.Common.{sym, ◌∙◌, arith, get_or-drop, ltb-true, ltb-false}
use Rattle.std.proofs.Math.Path.{ap}
use mathlib.Core.List.{List, ◌∷◌}
use Prim.Native.Nat.{ℕ, suc, ◌+◌, ◌-◌, ◌*◌, ◌^◌, ◌≤◌, ◌<◌}
use Rattle.std.proofs.Math.Nat.{le_trans, le_of_eq, mul-one}
use Rattle.std.proofs.Math.ListN.{get_or}
use Rattle.std.proofs.Math.IntN.{ℤ, nat_abs, +ℤ_idl, zero-*ℤ, *ℤ-zero}
use Rattle.std.specs.Float.Ieee.{nan, add}
use Rattle.std.specs.Float.{binary64}
use Rattle.lists.specs.Test.{decide}
use Rattle.lists.specs.Four.{at}
use Rattle.model_textbook.specs.Sum.{add_n, add_z, sum_n, sum_z}
use Rattle.model_textbook.specs.Box.{index_minus, degree}
use Rattle.model.specs.General.{lo, steps, line}
use Rattle.model_textbook.specs.Textbook.{Series, times}
use Rattle.laws_whole.specs.Int.{abs-mul}
use Rattle.laws_whole.specs.SumLaws.{sum_same}
use Rattle.laws_whole.specs.SumSizes.{sum_n-le, sum_n-part, abs-sum_z}
use Rattle.laws_whole.specs.Index.{InBox, Within}
use Rattle.laws_whole.specs.IndexLaws.{minus-within, within_self}
use Rattle.laws_whole.specs.PlaceLaws.{box_count, box_place}
use Rattle.laws_whole.specs.SeriesSizes.{sizes}
use Rattle.laws_whole.specs.Whole.{Whole, whole-zero}
use Rattle.laws_whole.specs.Steps.{whole-walk, add_step, whole_products}
use Rattle.laws_exact.specs.Windows.{sum_window, box_flat, minus_flat, place_flat, times_none, times-row, sizes-row}

-- at every index of the box ns up to ks the list xs holds P, and P is zero at every other index up to ks
pub record Stores (ns ks : List ℕ) (xs : List Float) (P : Series) : Type 0 where
  pub known : (j : List ℕ) → InBox j ns → Within j ks → Whole (get_or xs (box_place ns j) nan) (P j)
  pub past : (j : List ℕ) → Within j ks → (InBox j ns → ⊥) → P j ≡ pos 0

in-first : {i n : ℕ} {j ns : List ℕ} → InBox (i ∷ j) (n ∷ ns) → i < n
in-first (InBox.more l u) = l

in_rest : {i n : ℕ} {j ns : List ℕ} → InBox (i ∷ j) (n ∷ ns) → InBox j ns
in_rest (InBox.more l u) = u

module _ {n k : ℕ} {ns ks : List ℕ} {xs : List Float} {P : Series} (s : Stores (n ∷ ns) (k ∷ ks) xs P) (i : ℕ) (le : i ≤ k) where
  pub row_stores : (c : ℕ) → c ≡ box_count ns → i < n → Stores ns ks (drop (i * c) xs) (λ j. P (i ∷ j))
  unfolding box_place
  row_stores c e l = record {
    known = λ j u w. rw (get_or-drop (i * c) xs (box_place ns j) nan, e) (s.known (i ∷ j) (InBox.more l u) (Within.more le w));
    past = λ j w o. s.past (i ∷ j) (Within.more le w) (λ u. o (in_rest u));
  }

  pub row-past : n ≤ i → (j : List ℕ) → Within j ks → P (i ∷ j) ≡ pos 0
  row-past h j w = s.past (i ∷ j) (Within.more le w) (λ u. let l = in-first u in omega arith)

-- ---- the terms that the source's range leaves out are zero

module _ {n m k : ℕ} {ns ms ks : List ℕ} {xs ys : List Float} {P Q : Series} (s : Stores (n ∷ ns) (k ∷ ks) xs P) (t : Stores (m ∷ ms) (k ∷ ks) ys Q) where
  abbrev term_z : ℕ → ℤ
  term_z i = times (λ j. P (i ∷ j)) (λ j. Q ((k - i) ∷ j)) ks

  out-of_window : (i : ℕ) → i < suc k → (lo m k ≤ i → i < lo m k + steps n m k → ⊥) → term_z i ≡ pos 0
  out-of_window i h o =
      decide (ltb i (lo m k))
      (λ e. let l = ltb-true i (lo m k) e in
      times_none _ _ ks (λ j w. ap (λ (x : ℤ). P (i ∷ j) *ℤ x)
      (row-past t (k - i) (omega arith) (omega arith) (index_minus ks j) (minus-within ks j)) ∙ *ℤ-zero (P (i ∷ j))))
      (λ e. let l = ltb-false i (lo m k) e in
      let far : n ≤ i = decide (ltb i n) (λ x. absurd (let y = ltb-true i n x in o l (omega arith))) (λ x. ltb-false i n x) in
      times_none _ _ ks (λ j w. ap (λ (x : ℤ). x *ℤ Q ((k - i) ∷ index_minus ks j)) (row-past s i (omega arith) far j w)
      ∙ zero-*ℤ (Q ((k - i) ∷ index_minus ks j))))

  pub times_window : times P Q (k ∷ ks) ≡ sum_z term_z (steps n m k) (lo m k)
  times_window = times-row P Q k ks ∙ sum_window add_z term_z (suc k) (lo m k) (steps n m k) (omega arith) out-of_window

  pub sizes_window : sum_n (λ i. sizes (λ j. P (i ∷ j)) (λ j. Q ((k - i) ∷ j)) ks) (steps n m k) (lo m k) ≤ sizes P Q (k ∷ ks)
  sizes_window = rw (sizes-row P Q k ks) (sum_n-part _ (steps n m k) (lo m k) (suc k) 0 (omega arith) (omega arith))

  -- where every later number is 0
  module _ (flat : degree ks ≡ 0) where
    flat-times : (i : ℕ) → term_z i ≡ P (i ∷ ks) *ℤ Q ((k - i) ∷ ks)
    unfolding times
    flat-times i = box_flat add_z _ ks flat ∙ ap (λ (x : List ℕ). P (i ∷ ks) *ℤ Q ((k - i) ∷ x)) (minus_flat ks ks flat)

    flat-sizes : (i : ℕ) → sizes (λ j. P (i ∷ j)) (λ j. Q ((k - i) ∷ j)) ks ≡ nat_abs (P (i ∷ ks)) * nat_abs (Q ((k - i) ∷ ks))
    unfolding sizes
    flat-sizes i = box_flat add_n _ ks flat ∙ ap (λ (x : List ℕ). nat_abs (P (i ∷ ks)) * nat_abs (Q ((k - i) ∷ x))) (minus_flat ks ks flat)

    -- the line of the one long variable
    pub line_whole_lem : box_count ns ≡ 1 → box_count ms ≡ 1 → InBox ks ns → InBox ks ms → {x : Float} {c : ℤ} → Whole x c → nat_abs c +
        sizes P Q (k ∷ ks) ≤ 2 ^ 53
        → Whole (add binary64 x (line xs ys n m k)) (c +ℤ times P Q (k ∷ ks))
    unfolding line box_place
    line_whole_lem e f u v {x} {c} w h =
        let E : ℕ → ℤ = λ j. P (j ∷ ks) *ℤ Q ((k - j) ∷ ks) in
        let W : ℕ → ℕ = λ j. nat_abs (P (j ∷ ks)) * nat_abs (Q ((k - j) ∷ ks)) in
        let N = steps n m k in
        let L = lo m k in
        let at_x : (j : ℕ) → box_place (n ∷ ns) (j ∷ ks) ≡ j = λ j. rw (e, place_flat ns ks flat, mul-one j) (omega arith) in
        let at_y : (j : ℕ) → box_place (m ∷ ms) (j ∷ ks) ≡ j = λ j. rw (f, place_flat ms ks flat, mul-one j) (omega arith) in
        let same : times P Q (k ∷ ks) ≡ sum_z E N L = times_window ∙ sum_same add_z _ E N L (λ j p q. flat-times j) in
        let size : sum_n W N L ≤ sizes P Q (k ∷ ks) = le_trans (sum_n-le W _ N L (λ j p q. le_of_eq (sym (flat-sizes j)))) sizes_window in
        let adds = whole_products (λ j. get_or xs j nan) (λ j. get_or ys (k - j) nan) (λ j. P (j ∷ ks)) (λ j. Q ((k - j) ∷ ks)) N L
        (λ j p q. rw (at_x j) at (s.known (j ∷ ks) (InBox.more (omega arith) u) (Within.more (omega arith) (within_self ks))))
        (λ j p q. rw (at_y (k - j)) at (t.known ((k - j) ∷ ks) (InBox.more (omega arith) v) (Within.more (omega arith) (within_self ks)))) in
        let whole : Whole (line xs ys n m k) (sum_z E N L) = rw (← +ℤ_idl (sum_z E N L)) (whole-walk adds whole-zero (omega arith)) in
        rw same (add_step w whole (omega (arith, abs-sum_z E W N L (λ j p q. le_of_eq (abs-mul (P (j ∷ ks)) (Q ((k - j) ∷ ks)))))))
