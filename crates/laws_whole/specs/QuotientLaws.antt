-- The textbook quotient is the one series whose product by the divisor is the dividend, in four variables, where the
-- divisor's constant is 1 or -1.
use Rattle.std.specs.Prelude.{◌≡◌, List, eqb, length, ℤ, nat_abs, ◌+ℤ◌, ◌-ℤ◌, ◌*ℤ◌}
use Rattle.std.proofs.Common.{sym, ◌∙◌, arith}
use Rattle.std.proofs.Math.Path.{ap}
use Prim.Native.Nat.{ℕ, zero, suc, ◌<◌}
use Rattle.std.proofs.Math.IntN.{*ℤ_comm, *ℤ-zero, -ℤ-+ℤ_cancel, +ℤ-neg_ℤ_cancel}
use Rattle.std.proofs.lemmas.Bool.{eqb-false}
use Rattle.lists.specs.Test.{decide}
use Rattle.model_textbook.specs.Box.{index_minus, degree}
use Rattle.model_textbook.specs.Textbook.{Series, times, origin, rest, turns, quotient}
use Rattle.laws_whole.specs.Int.{unit-back}
use Rattle.laws_whole.specs.Index.{Within}
use Rattle.laws_whole.specs.IndexLaws.{within-length, degree-minus, minus_self}
use Rattle.laws_whole.specs.SeriesLaws.{times-same, times-rest}

-- the rest of a product asks only for what lies before
pub before : (P Q B : Series) (k : List ℕ) → ((j : List ℕ) → Within j k → degree j < degree k → P j ≡ Q j) → times P (rest B) k ≡ times Q (rest B) k
unfolding rest
before P Q B k h =
    times-same P (rest B) Q (rest B) k (λ j w.
    decide (eqb (degree (index_minus k j)) 0)
    (λ e. rw e (*ℤ-zero (P j) ∙ sym (*ℤ-zero (Q j))))
    (λ e. let d = eqb-false (degree (index_minus k j)) 0 e in ap (λ (x : ℤ). x *ℤ rest B (index_minus k j)) (h j w (omega (arith, degree-minus w)))))

module _ (A B : Series) where
  -- further turns change nothing
  turns_same : (n m : ℕ) (k : List ℕ) → degree k < n → degree k < m → turns n A B k ≡ turns m A B k
  unfolding turns
  turns_same zero m k p q = absurd (omega arith)
  turns_same (suc n) zero k p q = absurd (omega arith)
  turns_same (suc n) (suc m) k p q =
      rw (before (turns n A B) (turns m A B) B k (λ j w l. turns_same n m j (omega arith) (omega arith)))

  pub quotient-step : (k : List ℕ) → quotient A B k ≡ B origin *ℤ (A k -ℤ times (quotient A B) (rest B) k)
  unfolding quotient turns
  quotient-step k =
      ap (λ (x : ℤ). B origin *ℤ (A k -ℤ x)) (before (turns (degree k) A B) (quotient A B) B k
      (λ j w l. turns_same (degree k) (suc (degree j)) j l (omega arith)))
