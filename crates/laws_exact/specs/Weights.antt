-- |A| of a stored polynomial over other lengths (document 01, 'Where the result is exact'): whatever is cut away, no
-- more is left. So a bound on |A| as the operand is stored is one on what a cut leaves of it.
use Rattle.std.specs.Prelude.{◌≡◌, refl, List, ℕ, ◌+◌, ◌≤◌, length, ℤ, nat_abs}
use Rattle.std.proofs.Common.{le_trans, le_of_eq, arith}
use Rattle.lists.specs.Four.{at, four, each}
use Rattle.model_textbook.specs.Textbook.{series_of, weight}
use Rattle.laws_whole.specs.Index.{Within}
use Rattle.laws_whole.specs.BoxSizes.{box_n-part}
use Rattle.laws_whole.specs.StoredLaws.{weight_wider}
use Rattle.laws_exact.specs.Windows.{at-within}

pub weight_any : (n : List ℕ) → length n ≡ 4 → (a : ℕ → ℤ) (m : List ℕ) → length m ≡ 4 → weight m (series_of n a) ≤ weight n (series_of n a)
unfolding weight
weight_any n e a m f =
    let r = four (λ v. at n v + at m v) in
    let x : Within n r = at-within n r e (each (λ v. at n v ≤ at r v) (omega arith) (omega arith) (omega arith) (omega arith)) in
    let y : Within m r = at-within m r f (each (λ v. at m v ≤ at r v) (omega arith) (omega arith) (omega arith) (omega arith)) in
    le_trans (box_n-part (λ k. nat_abs (series_of n a k)) y) (le_of_eq (weight_wider n e a x refl))
