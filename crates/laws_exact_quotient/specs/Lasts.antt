-- A product with its last row apart (document 01, port order 5): at an index, Q B is what the rows of Q before give,
-- from the first row that the divisor reaches, and the row of the index itself times the divisor's row 0. The
-- recurrence of `div` is this equation, solved for the last row.
use Rattle.std.specs.Prelude.{◌≡◌, List, ◌∷◌, ℕ, ◌+◌, ◌-◌, ◌≤◌, ◌<◌, ltb, ℤ, ◌+ℤ◌, ◌*ℤ◌, Float}
use Rattle.std.proofs.Common.{ap, ap₂, ◌∙◌, zero-add, arith, ltb-true, ltb-false}
use Rattle.std.proofs.Math.Nat.{sub_self}
use Rattle.std.proofs.Math.IntN.{*ℤ-zero}
use Rattle.lists.specs.Test.{decide}
use Rattle.model_textbook.specs.Sum.{add_n, add_z, sum_n, sum_z}
use Rattle.model_textbook.specs.Box.{index_minus}
use Rattle.model.specs.General.{lo}
use Rattle.model_textbook.specs.Textbook.{Series, times}
use Rattle.laws_whole.specs.SumLaws.{sum-last}
use Rattle.laws_whole.specs.SumSizes.{sum_n-part}
use Rattle.laws_whole.specs.IndexLaws.{minus-within}
use Rattle.laws_whole.specs.SeriesSizes.{sizes}
use Rattle.laws_exact.specs.Windows.{sum_window, times_none, times-row, sizes-row}
use Rattle.laws_exact.specs.Terms.{Stores, row-past}

-- row i of P times row k - i of B, and the sizes of its terms
abbrev pub row_z : Series → Series → ℕ → List ℕ → ℕ → ℤ
row_z P B k ks i = times (λ j. P (i ∷ j)) (λ j. B ((k - i) ∷ j)) ks

abbrev pub row_n : Series → Series → ℕ → List ℕ → ℕ → ℕ
row_n P B k ks i = sizes (λ j. P (i ∷ j)) (λ j. B ((k - i) ∷ j)) ks

-- what the rows before k give: m the divisor's length, the rows before lo are not reached
abbrev pub taken_z : Series → Series → ℕ → ℕ → List ℕ → ℤ
taken_z P B m k ks = sum_z (row_z P B k ks) (k - lo m k) (lo m k)

abbrev pub taken_n : Series → Series → ℕ → ℕ → List ℕ → ℕ
taken_n P B m k ks = sum_n (row_n P B k ks) (k - lo m k) (lo m k)

not_reached : (m k i : ℕ) → i < k → (lo m k ≤ i → i < lo m k + (k - lo m k) → ⊥) → m ≤ k - i
not_reached m k i h o =
    decide (ltb i (lo m k))
    (λ t. let l = ltb-true i (lo m k) t in omega arith)
    (λ t. let l = ltb-false i (lo m k) t in absurd (o l (omega arith)))

module _ {m k : ℕ} {ms ks : List ℕ} {ys : List Float} {B : Series} (t : Stores (m ∷ ms) (k ∷ ks) ys B) (least : 1 ≤ m) (P : Series) where
  pub times-last : times P B (k ∷ ks) ≡ taken_z P B m k ks +ℤ times (λ j. P (k ∷ j)) (λ j. B (0 ∷ j)) ks
  times-last =
      times-row P B k ks
      ∙ sum-last add_z (row_z P B k ks) k 0
      ∙ ap₂ ◌+ℤ◌
      (sum_window add_z (row_z P B k ks) k (lo m k) (k - lo m k) (omega arith) (λ i h o.
      times_none _ _ ks (λ j w.
      ap (λ (x : ℤ). P (i ∷ j) *ℤ x) (row-past t (k - i) (omega arith) (not_reached m k i h o) (index_minus ks j) (minus-within ks j)) ∙ *ℤ-zero (P (i ∷ j)))))
      (ap₂ (λ (i d : ℕ). times (λ j. P (i ∷ j)) (λ j. B (d ∷ j)) ks) (zero-add k) (ap (λ (i : ℕ). k - i) (zero-add k) ∙ sub_self k))

  pub sizes-last : taken_n P B m k ks + sizes (λ j. P (k ∷ j)) (λ j. B (0 ∷ j)) ks ≤ sizes P B (k ∷ ks)
  sizes-last =
      let f = row_n P B k ks in
      let last : f (0 + k) ≡ sizes (λ j. P (k ∷ j)) (λ j. B (0 ∷ j)) ks =
      ap₂ (λ (i d : ℕ). sizes (λ j. P (i ∷ j)) (λ j. B (d ∷ j)) ks) (zero-add k) (ap (λ (i : ℕ). k - i) (zero-add k) ∙ sub_self k) in
      omega (arith, last, sizes-row P B k ks, sum-last add_n f k 0, sum_n-part f (k - lo m k) (lo m k) k 0 (omega arith) (omega arith))
