-- The least place whose running sum is at least q: what it is and what lies before it, and the loop that stops there.
use Prim.Native.Nat.{ℕ, zero, suc, ◌+◌, ◌≤◌, ◌<◌}
use Rattle.std.specs.Prelude.{true, ◌≡◌, ltb, get_or, Float}
use Rattle.std.proofs.Math.Bool.{false}
use mathlib.Core.List.{List, [], ◌∷◌}
use Rattle.std.proofs.Math.Path.{refl, sym}
use Rattle.std.proofs.Common.{ap, ◌∙◌, ltb-true, ltb-false}
use native.Mathlib.Omega.{arith}
use Rattle.std.proofs.Math.ListN.{length}
use Rattle.std.specs.Float.Ieee.{nan, le}
use Rattle.lists.specs.Table.{length-table, table_at}
use Rattle.lists.specs.Test.{decide, of-both}
use Rattle.lists.specs.Walk.{Walked, walked_none, walked_more, walked_end}
use Rattle.model.specs.Refusals.{zero_f}
use Rattle.model.specs.Readings.{sum_to}
use Rattle.model.specs.Least.{running_sums, first_at_least, least_of}
use Rattle.readings_sums.specs.Sums.{plus_at}

-- ---- any list

module _ (q : Float) where
  first_found : (xs : List Float) (k : ℕ) → k < length xs → le q (get_or xs k nan) ≡ true
      → ((j : ℕ) → j < k → le q (get_or xs j nan) ≡ false) → first_at_least q xs ≡ k
  unfolding first_at_least
  first_found [] k h t f = absurd (omega arith)
  first_found (x ∷ xs) zero h t f = rw t
  first_found (x ∷ xs) (suc k) h t f =
      let e : le q x ≡ false = f 0 (omega arith) in
      rw e (ap suc (first_found xs k (omega arith) t (λ j l. f (suc j) (omega arith))))

  first-none : (xs : List Float) → ((j : ℕ) → j < length xs → le q (get_or xs j nan) ≡ false) → first_at_least q xs ≡ length xs
  unfolding first_at_least
  first-none [] f = refl
  first-none (x ∷ xs) f =
      let e : le q x ≡ false = f 0 (omega arith) in
      rw e (ap suc (first-none xs (λ j l. f (suc j) (omega arith))))

  first-most : (xs : List Float) → first_at_least q xs ≤ length xs
  unfolding first_at_least
  first-most [] = omega arith
  first-most (x ∷ xs) = of-both (λ (n : ℕ). n ≤ suc (length xs)) (le q x) (omega arith) (omega (arith, first-most xs))

  first_at_lem : (xs : List Float) → first_at_least q xs < length xs → le q (get_or xs (first_at_least q xs) nan) ≡ true
  unfolding first_at_least
  first_at_lem [] h = absurd (omega arith)
  first_at_lem (x ∷ xs) h =
      decide (le q x) (λ t. rw t t) (λ t. let g : first_at_least q xs < length xs = omega (arith, rw t at h) in rw t (first_at_lem xs g))

  first-before : (xs : List Float) (j : ℕ) → j < first_at_least q xs → le q (get_or xs j nan) ≡ false
  unfolding first_at_least
  first-before [] j h = absurd (omega arith)
  first-before (x ∷ xs) zero h = decide (le q x) (λ t. absurd (omega (arith, rw t at h))) (λ t. t)
  first-before (x ∷ xs) (suc j) h =
      decide (le q x)
      (λ t. absurd (omega (arith, rw t at h)))
      (λ t. let g : j < first_at_least q xs = omega (arith, rw t at h) in first-before xs j g)

-- ---- running sums

module _ (a : List Float) (n : ℕ) (q : Float) where
  sum_at_lem : (k : ℕ) → k < n → get_or (running_sums a n) k nan ≡ sum_to a (k + 1)
  unfolding running_sums
  sum_at_lem k h = table_at nan (λ k. sum_to a (k + 1)) n k h

  many : length (running_sums a n) ≡ n
  unfolding running_sums
  many = length-table (λ k. sum_to a (k + 1)) n

  -- a sum that reaches q where none before it does
  pub least-found : (k : ℕ) → k < n → le q (sum_to a (k + 1)) ≡ true → ((j : ℕ) → j < k → le q (sum_to a (j + 1)) ≡ false) → least_of a n q ≡ k
  unfolding least_of
  least-found k h t f = first_found q (running_sums a n) k (rw many h) (rw (sum_at_lem k h) t) (λ j l. rw (sum_at_lem j (omega arith)) (f j l))

  pub least-none : ((j : ℕ) → j < n → le q (sum_to a (j + 1)) ≡ false) → least_of a n q ≡ n
  unfolding least_of
  least-none f = first-none q (running_sums a n) (λ j l. let h : j < n = rw many at l in rw (sum_at_lem j h) (f j h)) ∙ many

  pub least-most : least_of a n q ≤ n
  unfolding least_of
  least-most = omega (arith, many, first-most q (running_sums a n))

  -- the answer's running sum reaches q, and no earlier one does
  pub least-reaches : least_of a n q < n → le q (sum_to a (least_of a n q + 1)) ≡ true
  unfolding least_of
  least-reaches h = sym (ap (le q) (sum_at_lem (first_at_least q (running_sums a n)) h)) ∙ first_at_lem q (running_sums a n) (rw many h)

  pub least-before : (j : ℕ) → j < least_of a n q → le q (sum_to a (j + 1)) ≡ false
  unfolding least_of
  least-before j h =
      sym (ap (le q) (sum_at_lem j (omega (arith, many, first-most q (running_sums a n))))) ∙ first-before q (running_sums a n) j h

-- ---- the loop: it has come to k, and none of the sums so far reaches q

pub record Short (a : List Float) (q : Float) (k : ℕ) (sum : Float) : Type 0 where
  pub so_far : Walked (plus_at a) 0 k zero_f sum
  pub none : (j : ℕ) → j < k → le q (sum_to a (j + 1)) ≡ false

module _ (a : List Float) (q : Float) where
  pub short_none : Short a q 0 zero_f
  short_none = record { so_far = walked_none _ 0 _; none = λ j h. absurd (omega arith) }

  module _ {k : ℕ} {sum : Float} (s : Short a q k sum) where
    next-sum : plus_at a k sum ≡ sum_to a (k + 1)
    unfolding sum_to
    next-sum = walked_end (k + 1) (walked_more s.so_far refl) (omega arith)

    pub short-more : le q (plus_at a k sum) ≡ false → Short a q (k + 1) (plus_at a k sum)
    short-more t = record {
      so_far = walked_more s.so_far refl;
      none = λ j h.
          decide (ltb j k)
          (λ l. s.none j (ltb-true j k l))
          (λ l. let e : j ≡ k = omega (arith, ltb-false j k l) in rw e (sym (ap (le q) next-sum) ∙ t));
    }

    pub short-found : (n : ℕ) → k < n → le q (plus_at a k sum) ≡ true → k ≡ least_of a n q
    short-found n h t = sym (least-found a n q k h (sym (ap (le q) next-sum) ∙ t) s.none)

    pub short_end : (n : ℕ) → k ≡ n → n ≡ least_of a n q
    short_end n e = sym (least-none a n q (λ j h. s.none j (omega arith)))
