-- Past its lengths a quotient is zero (document 01, port order 5, and 'Announced limits and lengths', quotient: a where
-- the divisor's b is 1, else L): in a variable where the divisor has one row, the quotient of the series reaches no
-- further than the dividend.
use Rattle.std.specs.Prelude.{◌≡◌, false, List, ℕ, ◌<◌, length, ℤ, pos, nat_abs, ◌*ℤ◌}
use Rattle.std.proofs.Math.Path.{sym, ap}
use Rattle.std.proofs.Common.{◌∙◌, true≢false, arith}
use Rattle.std.proofs.Math.IntN.{zero-*ℤ, *ℤ-zero}
use Rattle.lists.specs.Test.{decide}
use Rattle.lists.specs.Four.{at}
use Rattle.model.specs.Places.{inside}
use Rattle.model_textbook.specs.Box.{index_minus}
use Rattle.model.specs.Poly.{Block}
use Rattle.model.specs.Quotient.{quotient_shape}
use Rattle.model_textbook.specs.Textbook.{Series, truncated, times, origin, quotient}
use Rattle.laws_whole.specs.IndexLaws.{minus-length, minus-within}
use Rattle.laws_whole.specs.SeriesLaws.{times-same}
use Rattle.laws_whole.proofs.QuotientLaws.{quotient-times}
use Rattle.shape_words.specs.Lengths.{Inside, inside_is, is_inside_lem, inside-four, inside-at}
use Rattle.laws_keeps.specs.Sits.{Sits}
use Rattle.laws_exact.specs.Windows.{minus-at, times_none}
use Rattle.laws_exact.specs.Wholes.{Is}
use Rattle.laws_exact.specs.Firsts.{outside-shorter}
use Rattle.laws_exact.specs.Generals.{before, past_is}
use Rattle.laws_exact_quotient.specs.Inverses.{Solves, quotient-only-under}
use Rattle.laws_keeps.specs.QuotientKeeps.{by_length, dividend-fits}

module _ {l : List ℕ} {a b : Block} {A B : Series} (s : Sits l a) (t : Sits l b) (p : Is l a A) (q : Is l b B) (unit : nat_abs (B origin) ≡ 1) where
  abbrev r : List ℕ
  r = quotient_shape l a.lengths b.lengths

  abbrev Q : Series
  Q = quotient A B

  -- what the lengths and the divisor reach together, the lengths reach
  reached : (j k : List ℕ) → Inside l k → Inside r j → Inside b.lengths (index_minus k j) → Inside r k
  reached j k i x y =
      inside-four (λ v h. by_length (λ z. at j v < z → at k v < z) l a.lengths b.lengths v h
      (λ e g. omega (arith, inside-at y v h, minus-at k j v, e))
      (λ o g. inside-at i v h) (inside-at x v h))

  -- the quotient with what lies past the lengths left out is a quotient too
  cut-times : (k : List ℕ) → length k ≡ 4 → Inside l k → times (truncated r Q) B k ≡ A k
  unfolding truncated
  cut-times k f i =
      decide (inside r k)
      (λ o.
      times-same (truncated r Q) B Q B k (λ j w. rw (is_inside_lem {n = r} (before w (inside_is r k o))))
      ∙ quotient-times A B unit k f)
      (λ o.
      times_none (truncated r Q) B k (λ j w.
      let d = index_minus k j in
      decide (inside r j)
      (λ x. decide (inside b.lengths d)
      (λ y. absurd (true≢false (sym (is_inside_lem {n = r} (reached j k i (inside_is r j x) (inside_is b.lengths d y))) ∙ o)))
      (λ y. ap (λ (z : ℤ). truncated r Q j *ℤ z) (past_is t q d (minus-length k j ∙ f) (before (minus-within k j) i) y) ∙ *ℤ-zero (truncated r Q j)))
      (λ x. rw x (zero-*ℤ (B d))))
      ∙ sym (past_is s p k f i (outside-shorter r a.lengths k (dividend-fits s t).hi o)))

  pub past-quotient : (k : List ℕ) → length k ≡ 4 → Inside l k → inside r k ≡ false → Q k ≡ pos 0
  unfolding truncated
  past-quotient k f i o = let solves : Solves l A B (truncated r Q) = record { at = cut-times } in sym (quotient-only-under B unit solves k f i) ∙ rw o
