-- What rests on laws of specs/ (Steps).
use Rattle.std.specs.Prelude.{List, ℕ, ◌+◌, ◌^◌, ◌≤◌, ◌<◌, get_or, ℤ, nat_abs, ◌+ℤ◌, Float}
use Rattle.std.proofs.Common.{arith}
use Rattle.std.proofs.Math.IntN.{+ℤ_idl}
use Rattle.std.specs.Float.{nan, binary64}
use Rattle.std.specs.Float.Ieee.{add, of_bits}
use Rattle.lists.specs.Walk.{walk}
use Rattle.model_textbook.specs.Sum.{sum_n, sum_z}
use Rattle.laws_whole.specs.Whole.{Whole, whole-zero}
use Rattle.laws_whole.specs.Steps.{whole-adds, whole-walk}

-- ---- sums of terms, from any start and from +0.0

module _ (g : ℕ → Float) (e : ℕ → ℤ) (n a : ℕ) (known : (j : ℕ) → a ≤ j → j < a + n → Whole (g j) (e j)) where
  pub whole_sum : sum_n (λ j. nat_abs (e j)) n a ≤ 2 ^ 53 → Whole (walk (λ i acc. add binary64 acc (g i)) n a (of_bits binary64 0)) (sum_z e n a)
  whole_sum h = rw (← +ℤ_idl (sum_z e n a)) (whole-walk (whole-adds g e n a known) whole-zero (omega arith))

-- the elements of a list, upward from the first
pub whole_list : (xs : List Float) (e : ℕ → ℤ) (n : ℕ) → ((j : ℕ) → j < n → Whole (get_or xs j nan) (e j)) → sum_n (λ j. nat_abs (e j)) n 0 ≤ 2 ^ 53
    → Whole (walk (λ i acc. add binary64 acc (get_or xs i nan)) n 0 (of_bits binary64 0)) (sum_z e n 0)
whole_list xs e n known h = whole_sum (λ i. get_or xs i nan) e n 0 (λ j p q. known j (omega arith)) h
