-- The quotient by the recurrence of `div` (document 01, port order 5) under the limits l is the quotient of the series
-- there: at the places that it stores, each from those before it, and past them.
use Rattle.std.specs.Prelude.{◌≡◌, ltb, get_or, nat_abs, Float}
use Rattle.std.proofs.Math.Path.{refl, sym}
use Rattle.std.proofs.Common.{◌∙◌}
use mathlib.Core.List.{List, [], ◌∷◌}
use Prim.Native.Nat.{ℕ, zero, suc, ◌^◌, ◌≤◌, ◌<◌}
use native.Mathlib.Omega.{arith}
use Rattle.std.proofs.Math.ListN.{length, get_or-append}
use Rattle.std.proofs.Math.Seq.{get_or_at}
use Rattle.std.specs.Float.Ieee.{nan}
use borrow.Author.Tests.{ltb-true, ltb-false}
use Rattle.lists.specs.Test.{decide}
use Rattle.lists.specs.Grow.{grow, length-grow}
use Rattle.model.specs.Header.{count}
use Rattle.model.specs.Places.{place, index}
use Rattle.model.specs.Poly.{Block, block, coefficient_at}
use Rattle.model.specs.Quotient.{quotient_at, recurred, quotient_shape}
use Rattle.model_textbook.specs.Textbook.{Series, origin, quotient}
use Rattle.laws_whole.specs.Whole.{Whole}
use Rattle.laws_whole.specs.Index.{Within}
use Rattle.laws_whole.specs.IndexLaws.{in-box-length, four_at_lem}
use Rattle.laws_whole.specs.SeriesSizes.{sizes}
use Rattle.laws_whole.specs.PlaceLaws.{place_of-four}
use Rattle.laws_whole.specs.StoredLaws.{in-box-inside}
use Rattle.laws_whole.proofs.QuotientLaws.{quotient-times}
use Rattle.shape_words.specs.Lengths.{Inside, inside_is, inside-four, inside-at}
use Rattle.shape_words.specs.Places.{place-lt, place-index, index-place}
use Rattle.laws_keeps.specs.Sits.{Sits}
use Rattle.laws_exact.specs.Windows.{degree-origin}
use Rattle.laws_exact.specs.Remaining.{from, from-four}
use Rattle.laws_exact.specs.Wholes.{Is, whole-at}
use Rattle.laws_exact.specs.Cuts.{index-stored}
use Rattle.laws_exact.specs.Generals.{Fits, stores}
use Rattle.laws_keeps.specs.QuotientKeeps.{divisor-fits, recurred-fits, quotient-under}
use Rattle.laws_exact_quotient.specs.Pasts.{past-quotient}
use Rattle.laws_exact_quotient.specs.Earlier.{Before}

module _ {l : List ℕ} {a b : Block} {A B : Series} (s : Sits l a) (t : Sits l b) (p : Is l a A) (q : Is l b B) (unit : nat_abs (B origin) ≡ 1) where
  abbrev r : List ℕ
  r = quotient_shape l a.lengths b.lengths

  abbrev Q : Series
  Q = quotient A B

  abbrev step : List Float → Float
  step g = quotient_at a b r (index r (length g)) g

  four : length r ≡ 4
  unfolding quotient_shape
  four = refl

  -- the places before that of k, by their indices
  pub earlier : (k : List ℕ) → length k ≡ 4 → (g : List Float)
      → ((x : ℕ) → x < place r k → Within (index r x) k → Whole (get_or g x nan) (Q (index r x))) → Before (from r 4 0) (from k 4 0) g Q
  earlier k f g known =
      rw (from-four r, from-four k, ← four_at_lem r four, ← four_at_lem k f)
      (record {
        known = λ j u d h.
            let e : length j ≡ 4 = in-box-length u ∙ four in
            let z = place_of-four r j four e in
            let i = inside_is r j (in-box-inside r four u) in
            let w = known (place r j) (rw (← z, ← place_of-four r k four f) h) (rw (index-place r j i, ← four_at_lem j e) d) in
            rw z (rw (index-place r j i ∙ sym (four_at_lem j e)) at w);
      })
