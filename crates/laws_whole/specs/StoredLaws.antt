-- The series of a stored polynomial, in four variables: its coefficients at the stored places, zero past them; |A| and
-- the sum of all coefficients as sums over the places.
use Rattle.std.specs.Prelude.{◌≡◌, List, ◌&&◌, length, ℤ, pos}
use Rattle.std.proofs.Common.{sym, ◌∙◌, lit<}
use Rattle.std.proofs.Math.Path.{ap}
use Rattle.std.proofs.Math.Bool.{Bool, true}
use Prim.Native.Nat.{ℕ, ◌<◌}
use Rattle.std.proofs.Math.Dec.{ltb}
use Rattle.std.proofs.Math.IntN.{nat_abs}
use borrow.Author.Tests.{ltb-true, lt-ltb}
use Rattle.lists.specs.Four.{at, each}
use Rattle.lists.specs.Test.{and_left, and_right, decide}
use Rattle.model.specs.Header.{count}
use Rattle.model.specs.Places.{place, inside}
use Rattle.model_textbook.specs.Sum.{add_n, add_z, sum_n, sum_z}
use Rattle.model_textbook.specs.Textbook.{Series, truncated, series_of, weight, sum_of_all}
use Rattle.laws_whole.specs.Index.{InBox, Within}
use Rattle.laws_whole.specs.IndexLaws.{in-box-at, at_in-box, in-box-length}
use Rattle.laws_whole.specs.BoxLaws.{box-same, box_narrow}
use Rattle.laws_whole.specs.PlaceLaws.{four-places}

module _ (n : List ℕ) (four : length n ≡ 4) where
  -- an index of the box is below in each variable
  pub in-box-below : {k : List ℕ} → InBox k n → (v : ℕ) → v < 4 → at k v < at n v
  in-box-below u v h = in-box-at u v (rw four h)

  pub below_in-box : (k : List ℕ) → length k ≡ 4 → ((v : ℕ) → v < 4 → at k v < at n v) → InBox k n
  below_in-box k e h = at_in-box k n (e ∙ sym four) (λ v l. h v (rw four at l))

  -- and inside the lengths
  pub in-box-inside : {k : List ℕ} → InBox k n → inside n k ≡ true
  unfolding inside
  in-box-inside {k} u =
      let l : (v : ℕ) → v < 4 → ltb (at k v) (at n v) ≡ true = λ v h. lt-ltb (at k v) (at n v) (in-box-below u v h) in
      rw (l 0 (lit< tt), l 1 (lit< tt), l 2 (lit< tt), l 3 (lit< tt))

  pub inside_in-box : (k : List ℕ) → length k ≡ 4 → inside n k ≡ true → InBox k n
  unfolding inside
  inside_in-box k e h =
      let t : ℕ → Bool = λ v. ltb (at k v) (at n v) in
      let p = and_left ((t 0 && t 1) && t 2) (t 3) h in
      let q = and_left (t 0 && t 1) (t 2) p in
      below_in-box k e
      (each (λ v. at k v < at n v)
      (ltb-true _ _ (and_left (t 0) (t 1) q))
      (ltb-true _ _ (and_right (t 0) (t 1) q))
      (ltb-true _ _ (and_right (t 0 && t 1) (t 2) p))
      (ltb-true _ _ (and_right ((t 0 && t 1) && t 2) (t 3) h)))

  pub truncated_in-box : (A : Series) {k : List ℕ} → InBox k n → truncated n A k ≡ A k
  unfolding truncated
  truncated_in-box A u = rw (in-box-inside u)

  pub truncated-past : (A : Series) (k : List ℕ) → length k ≡ 4 → (InBox k n → ⊥) → truncated n A k ≡ pos 0
  unfolding truncated
  truncated-past A k e h = decide (inside n k) (λ t. absurd (h (inside_in-box k e t))) (λ t. rw t)

  module _ (a : ℕ → ℤ) where
    pub stored_in-box : {k : List ℕ} → InBox k n → series_of n a k ≡ a (place n k)
    unfolding series_of
    stored_in-box u = truncated_in-box (λ k. a (place n k)) u

    pub stored_past : (k : List ℕ) → length k ≡ 4 → (InBox k n → ⊥) → series_of n a k ≡ pos 0
    unfolding series_of
    stored_past k = truncated-past (λ k. a (place n k)) k

    pub weight-stored : weight n (series_of n a) ≡ sum_n (λ p. nat_abs (a p)) (count n) 0
    unfolding weight
    weight-stored = box-same add_n _ (λ k. nat_abs (a (place n k))) n (λ k u. ap nat_abs (stored_in-box u)) ∙ four-places add_n (λ p. nat_abs (a p)) n four

    pub total-stored : sum_of_all n (series_of n a) ≡ sum_z a (count n) 0
    unfolding sum_of_all
    total-stored = box-same add_z _ (λ k. a (place n k)) n (λ k u. stored_in-box u) ∙ four-places add_z a n four

    -- over any limits that hold the lengths
    pub weight_wider : {r : List ℕ} → Within n r → length r ≡ 4 → weight r (series_of n a) ≡ weight n (series_of n a)
    unfolding weight
    weight_wider w e = box_narrow add_n _ w (λ k u o. ap nat_abs (stored_past k (in-box-length u ∙ e) o))
