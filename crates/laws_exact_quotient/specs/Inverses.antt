-- Document 01, 'Where the result is exact' (port order 5): where the divisor's constant is 1 or -1, the exact truncated
-- quotient exists and is the only one.
-- A divisor with such a constant has an inverse, and what a series Q is up to an index follows from Q B up to that
-- index: so two series whose products by B agree under the limits agree there. (With no limits set: crate whole's
-- QuotientLaws.)
use Rattle.std.specs.Prelude.{◌≡◌, List, ℕ, length, ℤ, nat_abs, ◌*ℤ◌}
use Rattle.std.proofs.Common.{sym, ap, ◌∙◌}
use Rattle.model_textbook.specs.Box.{index_minus}
use Rattle.model_textbook.specs.Textbook.{Series, times, one, origin, quotient}
use Rattle.laws_whole.specs.IndexLaws.{within-length, minus-length}
use Rattle.laws_whole.specs.SeriesLaws.{times-same, times-comm, times-assoc, times-one}
use Rattle.laws_whole.proofs.QuotientLaws.{quotient-times}
use Rattle.shape_words.specs.Lengths.{Inside}
use Rattle.laws_exact.specs.Generals.{before}

-- Q times B is A at every index under the limits l
pub record Solves (l : List ℕ) (A B Q : Series) : Type 0 where
  pub at : (k : List ℕ) → length k ≡ 4 → Inside l k → times Q B k ≡ A k

module _ (B : Series) (unit : nat_abs (B origin) ≡ 1) where
  pub quotient_solves : (l : List ℕ) (A : Series) → Solves l A B (quotient A B)
  quotient_solves l A = record { at = λ k f i. quotient-times A B unit k f }

  abbrev inverse : Series
  inverse = quotient one B

  -- Q, from Q B
  back : (Q : Series) (k : List ℕ) → length k ≡ 4 → times (times Q B) inverse k ≡ Q k
  back Q k f =
      times-assoc Q B inverse k
      ∙ times-same Q (times B inverse) Q one k (λ j w.
      let d = index_minus k j in
      ap (λ (x : ℤ). Q j *ℤ x) (times-comm B inverse d ∙ quotient-times one B unit d (minus-length k j ∙ f)))
      ∙ times-one Q k

  -- two series with one product
  solves-one : {l : List ℕ} {A P Q : Series} → Solves l A B P → Solves l A B Q → (k : List ℕ) → length k ≡ 4 → Inside l k → P k ≡ Q k
  solves-one {P = P} {Q = Q} p q k f i =
      sym (back P k f)
      ∙ times-same (times P B) inverse (times Q B) inverse k (λ j w.
      let e = within-length w ∙ f in
      ap (λ (x : ℤ). x *ℤ inverse (index_minus k j)) (p.at j e (before w i) ∙ sym (q.at j e (before w i))))
      ∙ back Q k f

  pub quotient-only-under : {l : List ℕ} {A Q : Series} → Solves l A B Q → (k : List ℕ) → length k ≡ 4 → Inside l k → Q k ≡ quotient A B k
  quotient-only-under {l = l} {A = A} s = solves-one s (quotient_solves l A)
