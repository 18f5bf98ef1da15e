-- What rests on laws of specs/ (Same).
use Prim.Native.Nat.{ℕ, ◌-◌, ◌≤◌, ◌<◌, min}
use Rattle.std.specs.Prelude.{◌≡◌, length}
use mathlib.Core.List.{List}
use Rattle.std.proofs.Math.Path.{sym, ap₂}
use Rattle.std.proofs.Common.{◌∙◌, arith}
use Rattle.lists.specs.Test.{decide}
use Rattle.lists.specs.Four.{at, four_same}
use Rattle.model.specs.declared.Header.{Header}
use Rattle.model.specs.Header.{limit}
use Rattle.model.specs.Places.{inside}
use Rattle.model_textbook.specs.Textbook.{truncated}
use Rattle.laws_whole.specs.IndexLaws.{four_at_lem}
use Rattle.laws_full.specs.Unlimited.{Value, value}
use Rattle.laws_full.specs.Limited.{cut_to}
use Rattle.laws_full.specs.Described.{Bounded}
use Rattle.laws_full.specs.Same.{outside-zero}

module _ (h : Header) (x : Value) (b : Bounded x) (fits : (w : ℕ) → w < 4 → at x.lengths w ≤ limit h w) where
  pub uncut : (k : List ℕ) → truncated h.limits x.series k ≡ x.series k
  unfolding truncated
  uncut k = decide (inside h.limits k) (λ t. rw t) (λ t. rw t (sym ((outside-zero h x b fits) k t)))

  pub cut-none : length x.lengths ≡ 4 → cut_to h x ≡ x
  unfolding cut_to
  cut-none e =
      ap₂ value (four_same (λ k. min (limit h k) (at x.lengths k)) (at x.lengths) (λ k l. omega (arith, fits k l))
      ∙ sym (four_at_lem x.lengths e)) (λ i k. uncut k i)
