-- What rests on laws of specs/ (Factors).
use Rattle.std.specs.Prelude.{◌≡◌, ℕ, ◌-◌, ◌*◌, ◌<◌, length, pos, ◌+ℤ◌}
use Rattle.std.proofs.Common.{sym, ◌∙◌}
use Rattle.std.proofs.Math.Path.{ap, ap₂}
use mathlib.Core.List.{List}
use Rattle.std.proofs.Math.IntN.{◌*ℤ◌, *ℤ_comm, +ℤ_comm}
use Rattle.model_textbook.specs.Box.{index_minus}
use Rattle.model_textbook.specs.Textbook.{Series, times, origin, rest}
use Rattle.laws_whole.specs.Index.{Within}
use Rattle.laws_whole.specs.IndexLaws.{minus_self}
use Rattle.laws_whole.specs.SeriesLaws.{times-comm, times-rest}
use Rattle.laws_exact.specs.Factors.{constant_of, raised_z, times-constant_of_lem, times-unit, unit}

module _ (A B : Series) (k : List ℕ) (f : length k ≡ 4) where
  module _ (v : ℕ) (h : v < 4) (only : (j : List ℕ) → Within j k → (j ≡ origin → ⊥) → (j ≡ unit v → ⊥) → A j ≡ pos 0) where
    -- a factor that is zero but for its constant and v itself
    pub times-line : times A B k ≡ raised_z v (A (unit v)) B k +ℤ times B (constant_of A) k
    times-line =
        times-comm A B k
        ∙ times-rest B A k
        ∙ +ℤ_comm (B k *ℤ A (index_minus k k)) (times B (rest A) k)
        ∙ ap₂ ◌+ℤ◌ (times-comm B (rest A) k ∙ (times-unit A B k f v h only))
        (ap (λ (i : List ℕ). B k *ℤ A i) (minus_self k f) ∙ *ℤ_comm (B k) (A origin) ∙ sym (times-constant_of_lem A B k f) ∙ times-comm (constant_of A) B k)
