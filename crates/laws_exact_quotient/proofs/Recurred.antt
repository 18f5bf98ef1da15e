-- What rests on laws of specs/ (Recurred).
use Rattle.std.specs.Prelude.{◌≡◌, ltb, get_or, nat_abs, Float}
use Rattle.std.proofs.Math.Path.{refl, sym}
use Rattle.std.proofs.Common.{◌∙◌}
use mathlib.Core.List.{List, [], ◌∷◌}
use Prim.Native.Nat.{ℕ, zero, suc, ◌^◌, ◌≤◌, ◌<◌}
use native.Mathlib.Omega.{arith}
use Rattle.std.proofs.Math.ListN.{length, get_or-append}
use Rattle.std.proofs.Math.Seq.{get_or_at}
use Rattle.std.specs.Float.Ieee.{nan}
use borrow.Author.Tests.{ltb-true, ltb-false}
use Rattle.lists.specs.Test.{decide}
use Rattle.lists.specs.Grow.{grow, length-grow}
use Rattle.model.specs.Header.{count}
use Rattle.model.specs.Places.{place, index}
use Rattle.model.specs.Poly.{Block, block, coefficient_at}
use Rattle.model.specs.Quotient.{quotient_at, recurred, quotient_shape}
use Rattle.model_textbook.specs.Textbook.{Series, origin, quotient}
use Rattle.laws_whole.specs.Whole.{Whole}
use Rattle.laws_whole.specs.Index.{Within}
use Rattle.laws_whole.specs.IndexLaws.{four_at_lem}
use Rattle.laws_whole.specs.SeriesSizes.{sizes}
use Rattle.laws_whole.proofs.QuotientLaws.{quotient-times}
use Rattle.shape_words.specs.Lengths.{Inside, inside-four, inside-at}
use Rattle.shape_words.specs.Places.{place-lt, place-index, index-place}
use Rattle.laws_keeps.specs.Sits.{Sits}
use Rattle.laws_exact.specs.Windows.{degree-origin}
use Rattle.laws_exact.specs.Remaining.{from, from-four}
use Rattle.laws_exact.specs.Wholes.{Is, whole-at}
use Rattle.laws_exact.specs.Cuts.{index-stored}
use Rattle.laws_exact.specs.Generals.{Fits, stores}
use Rattle.laws_keeps.specs.QuotientKeeps.{divisor-fits, recurred-fits, quotient-under}
use Rattle.laws_exact_quotient.specs.Pasts.{past-quotient}
use Rattle.laws_exact_quotient.proofs.Lessened.{quotient_at-whole}
use Rattle.laws_exact_quotient.specs.Recurred.{earlier}

module _ {l : List ℕ} {a b : Block} {A B : Series} (s : Sits l a) (t : Sits l b) (p : Is l a A) (q : Is l b B) (unit : nat_abs (B origin) ≡ 1) where
  abbrev r : List ℕ
  r = quotient_shape l a.lengths b.lengths

  abbrev Q : Series
  Q = quotient A B

  abbrev step : List Float → Float
  step g = quotient_at a b r (index r (length g)) g

  -- in a region D that holds, with an index, every index within it: room there is enough
  module _ (D : List ℕ → Type 0) (down : (j k : List ℕ) → Within j k → D k → D j)
      (room : (k : List ℕ) → length k ≡ 4 → Inside l k → D k → sizes Q B k ≤ 2 ^ 53) where
    pub place-next : (k : List ℕ) → length k ≡ 4 → Inside r k → D k → (g : List Float)
        → ((x : ℕ) → x < place r k → D (index r x) → Whole (get_or g x nan) (Q (index r x))) → Whole (quotient_at a b r k g) (Q k)
    place-next k f o m g known =
        let i : Inside l k = inside-four (λ v h. omega (arith, inside-at o v h, quotient-under s t v h)) in
        let same : from k 4 0 ≡ k = from-four k ∙ sym (four_at_lem k f) in
        rw same at
        (quotient_at-whole (recurred-fits s t) (divisor-fits s t) o a
        (record {
          earlier = (earlier s t p q unit) k f g (λ x h w. known x h (down (index r x) k w m));
          divisor = stores t q k f i;
          unit = λ j e d. rw (degree-origin j e d) unit;
          room = rw same (room k f i m);
        })
        (rw (same, quotient-times A B unit k f) (p.at k f i)))

    pub places-known : (n : ℕ) → n ≤ count r → (x : ℕ) → x < n → D (index r x) → Whole (get_or (grow n step []) x nan) (Q (index r x))
    unfolding grow index
    places-known zero h x l m = absurd (omega arith)
    places-known (suc n) h x l m =
        let g = grow n step [] in
        let e : length g ≡ n = length-grow n step [] ∙ omega arith in
        let known = places-known n (omega arith) in
        decide (ltb x n)
        (λ o. let y = ltb-true x n o in rw (get_or-append g (step g ∷ []) nan x (omega arith)) (known x y m))
        (λ o.
        let y : x ≡ n = omega (arith, ltb-false x n o) in
        rw (y, get_or_at g (step g) [] nan n e, e)
        (place-next (index r n) refl (index-stored r n (recurred-fits s t).lo h) (rw y at m) g (rw (place-index r n) known)))

    pub recurred_in_lem : (k : List ℕ) → length k ≡ 4 → Inside l k → D k → Whole (coefficient_at (block r (recurred a b r)) k) (Q k)
    unfolding recurred
    recurred_in_lem k f i m =
        whole-at (block r (recurred a b r)) k
        (λ o.
        let e : index r (place r k) ≡ k = index-place r k o ∙ sym (four_at_lem k f) in
        rw e at (places-known (count r) (omega arith) (place r k) (place-lt r k o) (rw e m)))
        (past-quotient s t p q unit k f i)

  -- everywhere under the limits
  pub recurred-is : Fits l Q B → Is l (block r (recurred a b r)) Q
  recurred-is room = record { at = λ k f i. recurred_in_lem (λ k. Unit {0}) (λ j k w d. tt) (λ k f i d. room.at k f i) k f i tt }
