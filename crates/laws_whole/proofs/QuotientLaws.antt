-- What rests on laws of specs/ (QuotientLaws).
use Rattle.std.specs.Prelude.{◌≡◌, List, length, ℤ, nat_abs, ◌+ℤ◌, ◌-ℤ◌, ◌*ℤ◌}
use Rattle.std.proofs.Common.{sym, ◌∙◌, arith}
use Rattle.std.proofs.Math.Path.{ap}
use Prim.Native.Nat.{ℕ, zero, suc, ◌<◌}
use Rattle.std.proofs.Math.IntN.{*ℤ_comm, -ℤ-+ℤ_cancel, +ℤ-neg_ℤ_cancel}
use Rattle.model_textbook.specs.Box.{degree}
use Rattle.model_textbook.specs.Textbook.{Series, times, origin, rest, quotient}
use Rattle.laws_whole.specs.Int.{unit-back}
use Rattle.laws_whole.specs.IndexLaws.{within-length, minus_self}
use Rattle.laws_whole.specs.SeriesLaws.{times-rest}
use Rattle.laws_whole.specs.QuotientLaws.{before, quotient-step}

module _ (A B : Series) where
  module _ (unit : nat_abs (B origin) ≡ 1) where
    -- Q B = A
    pub quotient-times : (k : List ℕ) → length k ≡ 4 → times (quotient A B) B k ≡ A k
    quotient-times k four =
        let r = times (quotient A B) (rest B) k in
        times-rest (quotient A B) B k
        ∙ ap (λ (i : List ℕ). quotient A B k *ℤ B i +ℤ r) (minus_self k four)
        ∙ ap (λ (x : ℤ). x *ℤ B origin +ℤ r) ((quotient-step A B) k ∙ *ℤ_comm (B origin) (A k -ℤ r))
        ∙ ap (λ (x : ℤ). x +ℤ r) (unit-back (A k -ℤ r) (B origin) unit)
        ∙ -ℤ-+ℤ_cancel (A k) r

    -- and no other Q has it
    module _ (Q : Series) (h : (k : List ℕ) → length k ≡ 4 → times Q B k ≡ A k) where
      pub only_below : (n : ℕ) (k : List ℕ) → degree k < n → length k ≡ 4 → Q k ≡ quotient A B k
      only_below zero k p four = absurd (omega arith)
      only_below (suc n) k p four =
          let r = times Q (rest B) k in
          let s : Q k *ℤ B origin ≡ A k -ℤ r =
          sym (+ℤ-neg_ℤ_cancel (Q k *ℤ B origin) r)
          ∙ ap (λ (x : ℤ). x -ℤ r) (ap (λ (i : List ℕ). Q k *ℤ B i +ℤ r) (sym (minus_self k four)) ∙ sym (times-rest Q B k) ∙ h k four) in
          sym (unit-back (Q k) (B origin) unit)
          ∙ ap (λ (x : ℤ). x *ℤ B origin) (s ∙ ap (λ (x : ℤ). A k -ℤ x)
          (before Q (quotient A B) B k (λ j w l. only_below n j (omega arith) (within-length w ∙ four))))
          ∙ *ℤ_comm (A k -ℤ times (quotient A B) (rest B) k) (B origin)
          ∙ sym ((quotient-step A B) k)

      pub quotient-only : (k : List ℕ) → length k ≡ 4 → Q k ≡ quotient A B k
      quotient-only k = only_below (suc (degree k)) k (omega arith)
