-- Document 02, W11: `shift_down` twice in one variable, by n and by m, equals one by n + m, n + m below the limit, for
-- whole coefficients, no cap, where |A| is at most 2 ^ 53.
use Rattle.std.specs.Prelude.{◌≡◌, refl, List, eqb, length, set, ◌+ℤ◌}
use Rattle.std.proofs.Math.Path.{sym, ap, ap₂}
use Rattle.std.proofs.Common.{◌∙◌, le_trans, length-set}
use Prim.Native.Nat.{ℕ, suc, ◌+◌, ◌-◌, ◌^◌, ◌≤◌, ◌<◌}
use native.Mathlib.Omega.{arith}
use Rattle.std.proofs.Math.Seq.{set-set}
use Rattle.std.proofs.Math.IntN.{ℤ}
use borrow.Author.Tests.{eqb-false, ne_eqb}
use Rattle.lists.specs.Test.{decide}
use Rattle.lists.specs.Four.{at, four_same, at_same}
use Rattle.model.specs.Header.{limit}
use Rattle.model_textbook.specs.Sum.{add_z, sum_z}
use Rattle.model.specs.Announced.{announced, single, less_in}
use Rattle.model.specs.Poly.{Poly, block_of, coefficient_at}
use Rattle.model.specs.Shifts.{shift_down_poly}
use Rattle.model_textbook.specs.Textbook.{Series, shifted}
use Rattle.model_caps.specs.Order.{uncapped, Same}
use Rattle.laws_whole.specs.Whole.{Whole, whole-one}
use Rattle.laws_whole.specs.Compare.{whole-eq}
use Rattle.laws_whole.specs.SumLaws.{sum_first, sum-split, sum-shift, sum_same}
use Rattle.shape_words.specs.Rules.{Regular}
use Rattle.laws_exact.specs.Wholes.{Wholes, wholes-at}
use Rattle.laws_exact.specs.Factors.{positive}
use Rattle.laws_exact.specs.Cuts.{numbers_of}
use Rattle.laws_exact.specs.Sums.{series_in, weight_in}
use Rattle.laws_keeps.specs.ShiftKeeps.{shift_down-keeps}
use Rattle.laws_exact_shift.specs.Shifted.{shift_down-exact}
use Rattle.laws_exact_shift.specs.ShiftTotals.{shift_down-result}

-- ---- the textbook's shift

module _ (v : ℕ) (A : Series) (k : List ℕ) (h : v < length k) where
  row_first : (n : ℕ) → shifted v n A (set k v 0) ≡ sum_z (λ j. A (set k v j)) (suc n) 0
  unfolding shifted
  row_first n = rw (at_same k v 0 h) (simp set-set)

  row-after : (n j : ℕ) → 1 ≤ j → shifted v n A (set k v j) ≡ A (set k v (n + j))
  unfolding shifted
  row-after n j l =
      let e : j + n ≡ n + j = omega arith in
      rw (at_same k v j h, ne_eqb j 0 (λ o. omega arith), set-set k v j (j + n), e)

  pub shift_twice : (n m : ℕ) → shifted v m (shifted v n A) k ≡ shifted v (n + m) A k
  unfolding shifted
  shift_twice n m =
      let f : ℕ → ℤ = λ j. A (set k v j) in
      let s : Series = shifted v n A in
      let p : 0 + suc n ≡ n + 1 = omega arith in
      let q : suc n + m ≡ suc (n + m) = omega arith in
      let rest : sum_z (λ i. s (set k v i)) m 1 ≡ sum_z f m (0 + suc n) =
      sum_same add_z (λ i. s (set k v i)) (λ i. f (n + i)) m 1 (λ i x y. row-after n i x) ∙ sum-shift add_z f m n 1 ∙ ap (sum_z f m) (sym p) in
      let first : sum_z (λ i. s (set k v i)) (suc m) 0 ≡ sum_z f (suc (n + m)) 0 =
      sum_first add_z (λ i. s (set k v i)) m 0 ∙ ap₂ (λ (x y : ℤ). x +ℤ y) (row_first n) rest ∙ sym (sum-split add_z f (suc n) m 0) ∙ ap
      (λ (i : ℕ). sum_z f i 0) q in
      decide (eqb (at k v) 0)
      (λ t. rw t first)
      (λ t.
      let o : 1 ≤ at k v = positive (at k v) (eqb-false (at k v) 0 t) in
      let e : n + (at k v + m) ≡ at k v + (n + m) = omega arith in
      rw t (row-after n (at k v + m) (omega arith) ∙ ap f e))

-- series that agree are shifted alike
shifted-same : (v n : ℕ) (A B : Series) (k : List ℕ) → length k ≡ 4 → ((j : List ℕ) → length j ≡ 4 → A j ≡ B j) → shifted v n A k ≡ shifted v n B k
unfolding shifted
shifted-same v n A B k f h =
    decide (eqb (at k v) 0)
    (λ t. rw t (sum_same add_z _ _ (suc n) 0 (λ j x y. h (set k v j) (length-set k v j ∙ f))))
    (λ t. rw t (h (set k v (at k v + n)) (length-set k v (at k v + n) ∙ f)))

-- ---- `shift_down`

less_twice : (v n m k l : ℕ) → less_in v m k (less_in v n k l) ≡ less_in v (n + m) k l
less_twice v n m k l = decide (eqb k v) (λ t. rw t (omega arith)) (λ t. rw t)

module _ (v n m : ℕ) (p : Poly) (g : Regular p.head) (h : v < 4) (a : ℕ → ℤ) (u : Wholes (block_of p) a) (bound : weight_in p a ≤ 2 ^ 53) where
  abbrev once : Poly
  once = shift_down_poly v n p

  abbrev numbers : ℕ → ℤ
  numbers = numbers_of once.head.lengths (shifted v n (series_in p a))

  -- after the first shift
  first-is : (k : List ℕ) → length k ≡ 4 → series_in once numbers k ≡ shifted v n (series_in p a) k
  first-is k f = whole-one (wholes-at (shift_down-result v n p g h a u bound).wholes k) (shift_down-exact v n p g h a u bound k f)

  twice-is : (k : List ℕ) → length k ≡ 4 → Whole (coefficient_at (block_of (shift_down_poly v m once)) k) (shifted v (n + m) (series_in p a) k)
  twice-is k f =
      let r = shift_down-result v n p g h a u bound in
      rw (← shift_twice v (series_in p a) k (rw f h) n m, ← shifted-same v m (series_in once numbers) (shifted v n (series_in p a)) k f first-is)
      (shift_down-exact v m once (shift_down-keeps v n p g).regular h numbers r.wholes (le_trans r.light bound) k f)

  pub shifts-add : Same (uncapped (shift_down_poly v m (shift_down_poly v n p))) (uncapped (shift_down_poly v (n + m) p))
  unfolding shift_down_poly announced single
  shifts-add = record {
    vars = refl;
    limits =
        four_same (λ k. less_in v m k (less_in v n k (limit p.head k))) (λ k. less_in v (n + m) k (limit p.head k))
        (λ k l. less_twice v n m k (limit p.head k));
    cap = refl;
    at = λ k f i. (whole-eq (twice-is k f) (shift_down-exact v (n + m) p g h a u bound k f)).1 refl;
  }
