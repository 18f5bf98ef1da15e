-- Truncation, whatever its region (document 02, W10 and W11): series that agree on a region which, with an index, holds
-- every index within it. Sums and products of such series agree there again, so a result may be truncated at every step
-- or at the end.
use Rattle.std.specs.Prelude.{◌≡◌, refl, List, ℕ, ℤ, ◌+ℤ◌, ◌*ℤ◌}
use Rattle.std.proofs.Common.{sym, ◌∙◌}
use Rattle.std.proofs.Math.Path.{ap₂}
use Rattle.model_textbook.specs.Box.{index_minus}
use Rattle.model_textbook.specs.Textbook.{Series, plus, times}
use Rattle.laws_whole.specs.Index.{Within}
use Rattle.laws_whole.specs.IndexLaws.{minus-within}
use Rattle.laws_whole.specs.SeriesLaws.{times-same}

-- with an index, every index within it
pub record Down (D : List ℕ → Type 0) : Type 0 where
  pub down : {j k : List ℕ} → Within j k → D k → D j

pub record Agree (D : List ℕ → Type 0) (A B : Series) : Type 0 where
  pub at : (k : List ℕ) → D k → A k ≡ B k

module _ {D : List ℕ → Type 0} where
  pub agree_same : {A B : Series} → ((k : List ℕ) → A k ≡ B k) → Agree D A B
  agree_same h = record { at = λ k d. h k }

  pub agree_self : {A : Series} → Agree D A A
  agree_self = record { at = λ k d. refl }

  pub agree-back : {A B : Series} → Agree D A B → Agree D B A
  agree-back e = record { at = λ k d. sym (e.at k d) }

  pub agree_then : {A B C : Series} → Agree D A B → Agree D B C → Agree D A C
  agree_then e f = record { at = λ k d. e.at k d ∙ f.at k d }

  pub agree-plus : {A B C E : Series} → Agree D A B → Agree D C E → Agree D (plus A C) (plus B E)
  unfolding plus
  agree-plus e f = record { at = λ k d. ap₂ (λ (x y : ℤ). x +ℤ y) (e.at k d) (f.at k d) }

  pub agree-times : {A B C E : Series} → Down D → Agree D A B → Agree D C E → Agree D (times A C) (times B E)
  agree-times {A} {B} {C} {E} g e f = record {
    at = λ k d. times-same A C B E k (λ j w. ap₂ (λ (x y : ℤ). x *ℤ y) (e.at j (g.down w d)) (f.at (index_minus k j) (g.down (minus-within k j) d)));
  }

-- a smaller region
pub agree_less : {D E : List ℕ → Type 0} {A B : Series} → ((k : List ℕ) → E k → D k) → Agree D A B → Agree E A B
agree_less h e = record { at = λ k d. e.at k (h k d) }
