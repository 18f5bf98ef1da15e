-- Masks inside an operation (document 02, W10: every product or sum inside one sets places at or past the cap to +0.0).
-- A sum reads each place by itself, and its ways by the lengths alone: so a cap on the summands cannot be seen under
-- the cap. A linear product is a product by a constant and a sum, so one mask at its end is enough.
use Rattle.std.specs.Prelude.{◌≡◌, refl, Bool, true, cond, List, ℕ, zero, suc, ◌<◌, ltb, eqb, length, get_or, set, Float}
use Rattle.std.proofs.Math.Path.{sym, ap}
use Rattle.std.proofs.Common.{◌∙◌, zero-lt-suc, arith, lit<, length-set, get_or-set_same, get_or-set_other, eqb-true, lt-ltb}
use Rattle.std.proofs.Math.Bool.{false}
use Rattle.std.specs.Float.Ieee.{nan, neg, eq}
use Rattle.std.proofs.lemmas.Bool.{eqb-false}
use Rattle.lists.specs.Test.{decide, or_intro}
use Rattle.lists.specs.Table.{table_at}
use Rattle.lists.specs.Four.{at, each}
use Rattle.model.specs.declared.Linear.{Linear}
use Rattle.model.specs.Header.{count}
use Rattle.model.specs.Limits.{max_shape}
use Rattle.model.specs.Places.{place, index, inside}
use Rattle.model_textbook.specs.Box.{degree}
use Rattle.model.specs.Refusals.{zero_f}
use Rattle.model.specs.Readings.{first}
use Rattle.model.specs.Negate.{negated_at}
use Rattle.model.specs.Poly.{Block, block, read_at}
use Rattle.model.specs.Add.{join, join_at, place_joined, turned, joined, joined_block}
use Rattle.model_textbook.specs.Textbook.{origin}
use Rattle.model.specs.Product.{raised, linear_product}
use Rattle.model_caps.specs.Cap.{under_cap, capped_places, capped}
use Rattle.laws_whole.specs.IndexLaws.{four_at_lem}
use Rattle.shape_words.specs.Lengths.{Inside, inside_is, inside-four}
use Rattle.shape_words.specs.Places.{place-lt, index-place}
use Rattle.laws_keeps.specs.Sits.{Sits, max-left, max-right}
use Rattle.laws_keeps.specs.Keeps.{joined-sits}
use Rattle.laws_exact.specs.Wholes.{place-origin}
use Rattle.laws_caps.specs.Capped.{capped-full, capped-sits, capped-under, capped_same}

-- what is stored at an index under the cap
pub read-capped : (c : ℕ) (b : Block) (i : List ℕ) → length i ≡ 4 → Inside b.lengths i → under_cap c i ≡ true → read_at (capped c b) i ≡ read_at b i
read-capped c b i f s u =
    let n = b.lengths in
    capped-under c n b.places (place n i) (place-lt n i s) (ap (under_cap c) (index-place n i s ∙ sym (four_at_lem i f)) ∙ u)

pub join-capped : (c : ℕ) (minus : Bool) (x : Float) (b : Block) (i : List ℕ) → length i ≡ 4 → under_cap c i ≡ true
    → join_at minus x (capped c b) i ≡ join_at minus x b i
unfolding join_at
join-capped c minus x b i f u =
    decide (inside b.lengths i)
    (λ t. rw t (ap (join minus x) (read-capped c b i f (inside_is b.lengths i t) u)))
    (λ t. rw t)

-- the constant is under every cap
under_first : (c : ℕ) → under_cap c origin ≡ true
unfolding degree
under_first c = or_intro (eqb c 0) (ltb 0 c) (λ t. lt-ltb 0 c (positive c (eqb-false c 0 t)))
  where
    positive : (n : ℕ) → (n ≡ 0 → ⊥) → 0 < n
    positive zero h = absurd (h refl)
    positive (suc n) h = zero-lt-suc n

module _ (c : ℕ) {l : List ℕ} {b : Block} (s : Sits l b) where
  origin_in : Inside b.lengths origin
  origin_in = inside-four (each (λ k. at origin k < at b.lengths k) (s.lo 0 (lit< tt)) (s.lo 1 (lit< tt)) (s.lo 2 (lit< tt)) (s.lo 3 (lit< tt)))

  some : 0 < count b.lengths
  some = omega (arith, place-lt b.lengths origin origin_in)

  at_first : index b.lengths 0 ≡ origin
  at_first = ap (index b.lengths) (sym (place-origin b.lengths)) ∙ index-place b.lengths origin origin_in

  first-capped : first (capped_places c b.lengths b.places) ≡ first b.places
  first-capped = capped-under c b.lengths b.places 0 some (ap (under_cap c) at_first ∙ under_first c)

  -- one place of the block with another first place
  set-capped : (x : Float) (p : ℕ) → p < count b.lengths → under_cap c (index b.lengths p) ≡ true
      → get_or (set (capped_places c b.lengths b.places) 0 x) p nan ≡ get_or (set b.places 0 x) p nan
  set-capped x p h u =
      let n = b.lengths in
      decide (eqb p 0)
      (λ t. let e : p ≡ 0 = eqb-true p 0 t in
      rw e (get_or-set_same (capped_places c n b.places) 0 x nan (omega (arith, capped-full c b s.full, some)) ∙ sym
      (get_or-set_same b.places 0 x nan (omega (arith, s.full, some)))))
      (λ t. let o = eqb-false p 0 t in
      get_or-set_other (capped_places c n b.places) 0 p x nan o ∙ capped-under c n b.places p h u ∙ sym (get_or-set_other b.places 0 p x nan o))

turned-capped : (minus : Bool) (x y : List Float) (p : ℕ) → length x ≡ length y → p < length y → get_or x p nan ≡ get_or y p nan
    → get_or (turned minus x) p nan ≡ get_or (turned minus y) p nan
turned-capped false x y p f h e = e
turned-capped true x y p f h e = table_at nan (negated_at x) (length x) p (omega arith) ∙ ap neg e ∙ sym (table_at nan (negated_at y) (length y) p h)

index-long : (n : List ℕ) (p : ℕ) → length (index n p) ≡ 4
unfolding index
index-long n p = refl

module _ (c : ℕ) (minus : Bool) {l : List ℕ} {a b : Block} (s : Sits l a) (t : Sits l b) where
  abbrev lengths : List ℕ
  lengths = max_shape a.lengths b.lengths

  one_place : (p : ℕ) → p < count lengths → under_cap c (index lengths p) ≡ true
      → get_or (joined minus lengths (capped c a) (capped c b)) p nan ≡ get_or (joined minus lengths a b) p nan
  unfolding joined
  one_place p h u =
      decide (eqb (count b.lengths) 1)
      (λ e.
      let n : lengths ≡ a.lengths = max-left s t (eqb-true _ _ e) in
      rw (e, first-capped c s, first-capped c t) (set-capped c s _ p (rw n at h) (rw n at u)))
      (λ e. rw e (decide (eqb (count a.lengths) 1)
      (λ f.
      let n : lengths ≡ b.lengths = max-right s t (eqb-true _ _ f) in
      rw (f, first-capped c s, first-capped c t)
      (turned-capped minus _ _ p
      (length-set (capped_places c b.lengths b.places) 0 _ ∙ capped-full c b t.full ∙ sym t.full ∙ sym (length-set b.places 0 _))
      (rw (length-set b.places 0 (join minus (first b.places) (first a.places)), t.full) (rw n at h))
      (set-capped c t _ p (rw n at h) (rw n at u))))
      (λ f. rw f
      (table_at nan (place_joined minus (capped c a) (capped c b) lengths) (count lengths) p h
      ∙ join-capped c minus (join_at false zero_f (capped c a) (index lengths p)) b (index lengths p) (index-long lengths p) u
      ∙ ap (λ (x : Float). join_at minus x b (index lengths p)) (join-capped c false zero_f a (index lengths p) (index-long lengths p) u)
      ∙ sym (table_at nan (place_joined minus a b lengths) (count lengths) p h)))))

  -- a cap on the summands is not seen under the cap
  pub sum_inside : capped c (joined_block minus (capped c a) (capped c b)) ≡ capped c (joined_block minus a b)
  unfolding joined_block
  sum_inside =
      ap (block lengths)
      (capped_same c lengths (joined minus lengths (capped c a) (capped c b)) (joined minus lengths a b)
      (joined-sits minus (capped-sits c s) (capped-sits c t)).full (joined-sits minus s t).full one_place)

-- a linear product, each product and sum in it capped
module _ (c : ℕ) (l : List ℕ) (line : Linear) (by_c : Block → Block) (x : Block) (s : Sits l (raised l line.variable line.m x)) (t : Sits l (by_c x)) where
  abbrev up : Block
  up = raised l line.variable line.m x

  pub linear-inside : cond (eq line.c zero_f) (capped c up) (capped c (joined_block false (capped c up) (capped c (by_c x))))
      ≡ capped c (linear_product by_c l line x)
  unfolding linear_product
  linear-inside = decide (eq line.c zero_f) (λ e. rw e) (λ e. rw e (sum_inside c false s t))
