-- The recurrence of the quotient with its places capped as they are made equals the one that is capped at its end
-- (document 02, W10), bit for bit.
use Rattle.std.specs.Prelude.{◌≡◌, eqb, drop}
use Rattle.std.proofs.Math.Path.{refl, sym, ap, ap₂}
use Rattle.std.proofs.Common.{◌∙◌, le_refl, get_or-drop}
use Rattle.std.proofs.Math.Bool.{true, cond}
use mathlib.Core.List.{List, [], ◌∷◌, ◌++◌}
use Prim.Native.Nat.{ℕ, zero, suc, ◌+◌, ◌-◌, ◌*◌, ◌≤◌, ◌<◌}
use native.Mathlib.Omega.{arith}
use Rattle.std.proofs.Math.Arith.{digits_lt}
use Rattle.std.proofs.Math.ListN.{length, get_or, get_or-append}
use Rattle.std.proofs.Math.Seq.{get_or_at}
use Rattle.std.specs.Float.Ieee.{Float, nan}
use Rattle.lists.specs.Test.{decide}
use Rattle.lists.specs.Table.{table, table_at, table_same, table-all}
use Rattle.lists.specs.Grow.{grow, length-grow}
use Rattle.lists.specs.Four.{at}
use Rattle.model.specs.Header.{count, span}
use Rattle.model.specs.Places.{place, index}
use Rattle.model.specs.Refusals.{zero_f}
use Rattle.model.specs.Poly.{Block}
use Rattle.model.specs.Quotient.{quotient_at, recurred}
use Rattle.model_caps.specs.Cap.{under_cap, capped_at, capped_places}
use Rattle.laws_whole.specs.Index.{InBox, Within}
use Rattle.laws_whole.specs.IndexLaws.{in-box-length, four_at_lem}
use Rattle.laws_whole.specs.PlaceLaws.{box_count, box_place, place_of-four}
use Rattle.laws_whole.specs.StoredLaws.{in-box-inside}
use Rattle.shape_words.specs.Lengths.{Inside, inside_is, inside-at}
use Rattle.shape_words.specs.Places.{place-index, index-place}
use Rattle.laws_exact.specs.Cuts.{index-stored}
use Rattle.laws_exact.specs.Remaining.{from, from-four, from-count}
use Rattle.laws_truncation.specs.Caps.{cap-down}
use Rattle.laws_caps.specs.Reads.{AgreeUp, Fit}
use Rattle.laws_caps.specs.Quotients.{EarlierUp, quotient-reads}

box_place-lt : {j ns : List ℕ} → InBox j ns → box_place ns j < box_count ns
unfolding box_place box_count
box_place-lt InBox.none = omega arith
box_place-lt (InBox.more l u) = digits_lt l (box_place-lt u)

-- agreement by places
up_of : (l k : List ℕ) (n v : ℕ) (xs ys : List Float)
    → ((j : List ℕ) → InBox j (from l n v) → Within j (from k n v) → get_or xs (box_place (from l n v) j) nan ≡ get_or ys (box_place (from l n v) j) nan)
    → AgreeUp l k n v xs ys
unfolding from box_place
up_of l k zero v xs ys h = h [] InBox.none Within.none
up_of l k (suc n) v xs ys h = λ i x y.
    let s : ℕ = span l n (suc v) in
    let e : box_count (from l n (suc v)) ≡ s = from-count l n (suc v) in
    up_of l k n (suc v) (drop (i * s) xs) (drop (i * s) ys) (λ j u w.
    get_or-drop (i * s) xs (box_place (from l n (suc v)) j) nan
    ∙ (rw e at (h (i ∷ j) (InBox.more y u) (Within.more x w)))
    ∙ sym (get_or-drop (i * s) ys (box_place (from l n (suc v)) j) nan))

earlier-of : (r k : List ℕ) (n v : ℕ) → ((w : ℕ) → v ≤ w → w < v + n → at k w < at r w) → (xs ys : List Float)
    → ((j : List ℕ) → InBox j (from r n v) → Within j (from k n v) → box_place (from r n v) j < box_place (from r n v) (from k n v) → get_or xs
    (box_place (from r n v) j) nan ≡ get_or ys (box_place (from r n v) j) nan)
    → EarlierUp r k n v xs ys
unfolding from box_place
earlier-of r k zero v o xs ys h = tt
earlier-of r k (suc n) v o xs ys h =
    let s : ℕ = span r n (suc v) in
    let e : box_count (from r n (suc v)) ≡ s = from-count r n (suc v) in
    let own : at k v < at r v = o v (omega arith) (omega arith) in
    let rest : List ℕ = from r n (suc v) in (
      λ i l. up_of r k n (suc v) (drop (i * s) xs) (drop (i * s) ys) (λ j u w.
          let g : i * box_count rest + box_place rest j < at k v * box_count rest = digits_lt l (box_place-lt u) in
          get_or-drop (i * s) xs (box_place rest j) nan
          ∙ (rw e at (h (i ∷ j) (InBox.more (omega arith) u) (Within.more (omega arith) w) (omega arith)))
          ∙ sym (get_or-drop (i * s) ys (box_place rest j) nan)),
      earlier-of r k n (suc v) (λ w a b. o w (omega arith) (omega arith)) (drop (at k v * s) xs) (drop (at k v * s) ys) (λ j u w m.
          get_or-drop (at k v * s) xs (box_place rest j) nan
          ∙ (rw e at (h (at k v ∷ j) (InBox.more own u) (Within.more (le_refl _) w) (omega arith)))
          ∙ sym (get_or-drop (at k v * s) ys (box_place rest j) nan)),
    )

module _ (c : ℕ) (x y : Block) (r : List ℕ) (long : length r ≡ 4) (pos-r : (k : ℕ) → k < 4 → 1 ≤ at r k) (f : Fit r y.lengths r 4 0) where
  abbrev step : List Float → Float
  step q = quotient_at x y r (index r (length q)) q

  -- a place as it is made, capped at once
  abbrev step_in : List Float → Float
  step_in q = cond (under_cap c (index r (length q))) (step q) zero_f

  unfoldable pub recurred_in : List Float
  recurred_in = grow (count r) step_in []

  masked : List Float → ℕ → Float
  masked g p = cond (under_cap c (index r p)) (get_or g p nan) zero_f

  -- under the cap a place reads none past it
  same_step : (m : ℕ) (g h : List Float) → m < count r → under_cap c (index r m) ≡ true → ((p : ℕ) → p < m → get_or h p nan ≡ masked g p)
      → quotient_at x y r (index r m) h ≡ quotient_at x y r (index r m) g
  unfolding masked index
  same_step m g h l u e =
      let k : List ℕ = index r m in
      let i : Inside r k = index-stored r m pos-r l in
      let R : from r 4 0 ≡ r = from-four r ∙ sym (four_at_lem r long) in
      let K : from k 4 0 ≡ k = from-four k in
      quotient-reads x y r k f h g
      (earlier-of r k 4 0 (λ w a b. inside-at i w (omega arith)) h g (λ j b w n.
      let B : InBox j r = rw R at b in
      let W : Within j k = rw K at w in
      let d : length j ≡ 4 = in-box-length B ∙ long in
      let o : Inside r j = inside_is r j (in-box-inside r long B) in
      let z : box_place (from r 4 0) j ≡ place r j = rw R (place_of-four r j long d) in
      let t : box_place (from r 4 0) (from k 4 0) ≡ m = rw (R, K) (place_of-four r k long refl ∙ place-index r m) in
      let v : under_cap c (index r (place r j)) ≡ true = ap (under_cap c) (index-place r j o ∙ sym (four_at_lem j d)) ∙ cap-down c W u in
      rw z (e (place r j) (omega (arith, n, z, t)) ∙ rw v)))

  -- the places made so far, one way and the other
  so_far : (m : ℕ) → m ≤ count r → grow m step_in [] ≡ table m (masked (grow m step []))
  unfolding grow masked table
  so_far zero h = refl
  so_far (suc m) h =
      let g : List Float = grow m step [] in
      let e : grow m step_in [] ≡ table m (masked g) = so_far m (omega arith) in
      let lg : length g ≡ m = length-grow m step [] ∙ omega arith in
      let li : length (grow m step_in []) ≡ m = length-grow m step_in [] ∙ omega arith in
      let front : table m (masked g) ≡ table m (masked (g ++ (step g ∷ []))) =
      table_same _ _ m (λ p l. ap (λ (z : Float). cond (under_cap c (index r p)) z zero_f) (sym (get_or-append g (step g ∷ []) nan p (omega arith)))) in
      let last : step_in (grow m step_in []) ≡ masked (g ++ (step g ∷ [])) m =
      rw (li, get_or_at g (step g) [] nan m lg, lg) (decide (under_cap c (index r m))
      (λ u. rw u (same_step m g (grow m step_in []) h u (λ p l. ap (λ (z : List Float). get_or z p nan) e ∙ table_at nan (masked g) m p l)))
      (λ u. rw u)) in
      ap₂ (λ (z : List Float) (t : Float). z ++ (t ∷ [])) (e ∙ front) last

  pub recurred-inside : recurred_in ≡ capped_places c r (recurred x y r)
  unfolding recurred_in recurred capped_places masked
  recurred-inside =
      let g : List Float = grow (count r) step [] in
      let n : length g ≡ count r = length-grow (count r) step [] ∙ omega arith in
      so_far (count r) (le_refl _)
      ∙ decide (eqb c 0)
      (λ t. rw t
      (table_same (masked g) (λ p. get_or g p nan) (count r) (λ p l. rw t)
      ∙ ap (λ (m : ℕ). table m (λ p. get_or g p nan)) (sym n)
      ∙ table-all nan g))
      (λ t. rw t (table_same (masked g) (capped_at c r g) (count r) (λ p l. rw t)))
