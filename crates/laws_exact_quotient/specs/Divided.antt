-- The quotient of two blocks under the limits l (document 01, port order 5: divisor one, divisor constant, else the
-- recurrence) is the exact one on whichever way is chosen.
use Rattle.std.specs.Prelude.{◌≡◌, refl, true, List, ℕ, ◌^◌, ◌≤◌, ◌<◌, length, ℤ, pos, nat_abs, ◌*ℤ◌, Float}
use Rattle.std.proofs.Common.{ap, ◌∙◌, le_trans, eqb-true}
use Rattle.std.proofs.Math.IntN.{zero-*ℤ, *ℤ_comm}
use Rattle.std.specs.Float.Ieee.{eq}
use Rattle.lists.specs.Test.{decide, and_left, and_right}
use Rattle.lists.specs.Table.{table}
use Rattle.lists.specs.Four.{at}
use Rattle.model.specs.Header.{count}
use Rattle.model.specs.Poly.{Block, block}
use Rattle.model.specs.Readings.{one_f, first}
use Rattle.model.specs.Product.{is_constant, is_one}
use Rattle.model.specs.Quotient.{divided_at, quotient_of, divided}
use Rattle.model_textbook.specs.Textbook.{Series, times, origin, quotient}
use Rattle.laws_whole.specs.Int.{*ℤ-unit, unit-back}
use Rattle.laws_whole.specs.Whole.{Whole}
use Rattle.laws_whole.specs.Exact.{whole-div}
use Rattle.laws_whole.specs.Compare.{eq-one}
use Rattle.laws_whole.specs.SeriesLaws.{times-comm}
use Rattle.laws_whole.specs.SeriesSizes.{abs-times}
use Rattle.laws_whole.proofs.QuotientLaws.{quotient-times}
use Rattle.shape_words.specs.Lengths.{Inside}
use Rattle.laws_keeps.specs.Sits.{Sits, cut-sits}
use Rattle.laws_exact.specs.Wholes.{Is, whole-at, stored_at, past-at, table-read, is_same_lem, cut-is}
use Rattle.laws_exact.specs.Firsts.{first-whole}
use Rattle.laws_exact.specs.Generals.{Fits}
use Rattle.laws_exact.specs.Constants.{constant-times}
use Rattle.laws_exact_quotient.specs.Inverses.{quotient-only-under}

-- each place divided by c, which is 1 or -1
divided-by : {l : List ℕ} {a : Block} {A : Series} {c : Float} {C : ℤ} → Whole c C → nat_abs C ≡ 1 → Is l a A
    → ((k : List ℕ) → length k ≡ 4 → Inside l k → nat_abs (A k) ≤ 2 ^ 53)
    → Is l (block a.lengths (table (count a.lengths) (divided_at c a.places))) (λ k. A k *ℤ C)
divided-by {a = a} {c = c} {C = C} w unit p h = record {
  at = λ k f i.
      whole-at (block a.lengths (table (count a.lengths) (divided_at c a.places))) k
      (λ j. rw (table-read a.lengths (count a.lengths) (divided_at c a.places) k refl j) (whole-div (stored_at a k (p.at k f i) j) w unit (h k f i)))
      (λ t. ap (λ (z : ℤ). z *ℤ C) (past-at a k (p.at k f i) t) ∙ zero-*ℤ C);
}

module _ {l : List ℕ} {a b : Block} {A B : Series} (s : Sits l a) (t : Sits l b) (p : Is l a A) (q : Is l b B) (unit : nat_abs (B origin) ≡ 1)
    (room : Fits l (quotient A B) B) where
  -- what a series gives times a divisor of stored count 1
  times-divisor : count b.lengths ≡ 1 → (Z : Series) (k : List ℕ) → length k ≡ 4 → Inside l k → times Z B k ≡ Z k *ℤ B origin
  times-divisor e Z k f i = times-comm Z B k ∙ constant-times t q e Z k f i ∙ *ℤ_comm (B origin) (Z k)

  pub over-one : is_one b ≡ true → Is l a (quotient A B)
  over-one e =
      let c = eqb-true _ _ (and_left (is_constant b) (eq (first b.places) one_f) e) in
      let o : B origin ≡ pos 1 = (eq-one (first-whole t q)).0 (and_right (is_constant b) (eq (first b.places) one_f) e) in
      is_same_lem (quotient-only-under B unit (record { at = λ k f i. times-divisor c A k f i ∙ ap (λ (z : ℤ). A k *ℤ z) o ∙ *ℤ-unit (A k) })) p

  pub over-constant : is_constant b ≡ true → Is l (block a.lengths (table (count a.lengths) (divided_at (first b.places) a.places))) (quotient A B)
  over-constant e =
      let Z : Series = λ k. A k *ℤ B origin in
      is_same_lem (quotient-only-under B unit (record { at = λ k f i. times-divisor (eqb-true _ _ e) Z k f i ∙ unit-back (A k) (B origin) unit }))
      (divided-by (first-whole t q) unit p (λ k f i. rw (← quotient-times A B unit k f) (le_trans (abs-times (quotient A B) B k) (room.at k f i))))
