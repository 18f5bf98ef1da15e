-- A block times a linear factor in one pass: the places as those of the sum that defines it.
use Prim.Native.Nat.{ℕ, ◌≤◌, ◌<◌, max}
use mathlib.Core.List.{List}
use Rattle.std.specs.Prelude.{Bool, ◌||◌, ◌≡◌, refl, Float}
use Rattle.std.proofs.Math.Bool.{true, false}
use Rattle.std.proofs.Math.Path.{sym, ap}
use Rattle.std.proofs.Common.{◌∙◌, arith, ne_eqb}
use Rattle.std.proofs.Math.ListN.{get_or}
use Rattle.std.specs.Float.Ieee.{nan, eq}
use Rattle.lists.specs.Test.{decide}
use Rattle.lists.specs.Four.{at, four, four_same}
use Rattle.lists.specs.Table.{table, table_at, table_same}
use Rattle.model.specs.declared.Linear.{Linear}
use Rattle.model.specs.Header.{count, span}
use Rattle.model.specs.Places.{index, inside, place}
use Rattle.model.specs.Limits.{max_shape}
use Rattle.model.specs.Refusals.{zero_f}
use Rattle.model.specs.Readings.{one_f}
use Rattle.model.specs.Poly.{Block, block, read_at}
use Rattle.model.specs.Add.{join_at, place_joined, joined, joined_block}
use Rattle.model.specs.Product.{constant_block, scaled, scaled_at, grown, raised, raised_at, linear_product, shortcut, product_of}
use Rattle.shape_words.specs.Lengths.{inside_is, is_inside_lem}
use Rattle.shape_words.specs.Places.{place-lt, place-index, index-inside}
use Rattle.blocks.specs.Combine.{way-both}
use Rattle.product.specs.Room.{RaisesTo, Put, Stands}
use Rattle.product.specs.Ways.{count_less, grown-under, grown_in, put-stands, raises-whole}
use Rattle.product_linear.specs.Raise.{lined_at}

-- ---- the block

module _ {n : List ℕ} {v : ℕ} {limits : List ℕ} {ma mo : ℕ} (t : RaisesTo n v limits ma mo) {r : List ℕ} (e : r ≡ grown limits v n) where
  pub lined_in : (k : ℕ) → k < 4 → at n k ≤ at r k
  lined_in = rw e (grown_in v t.var t.under)

  same_shape : max_shape r n ≡ r
  unfolding max_shape
  same_shape =
      let ns : r ≡ four (at r) = rw e (grown-under v t.var t.under).ns in
      four_same (λ k. max (at r k) (at n k)) (at r) (λ k h. omega (arith, lined_in k h)) ∙ sym ns

  module _ (c m : Float) (xs : List Float) where
    abbrev x : Block
    x = block n xs

    abbrev up : Block
    up = block r (table (count r) (λ k. raised_at v m x (index r k)))

    up_is : raised limits v m x ≡ up
    unfolding raised
    up_is = rw e

    lined-place : (k : ℕ) → k < count r → lined_at v c m x (index r k) ≡ place_joined false up (scaled c x) r k
    unfolding join_at
    lined-place k h =
        let i : List ℕ = index r k in
        let low : inside r i ≡ true = is_inside_lem (index-inside r k (raises-whole t e) h) in
        let u : read_at up i ≡ raised_at v m x i =
        ap (λ (q : ℕ). get_or up.places q nan) (place-index r k) ∙ table_at nan (λ j. raised_at v m x (index r j)) (count r) k h in
        decide (inside n i)
        (λ d.
        let y : read_at (scaled c x) i ≡ scaled_at c xs (place n i) = table_at nan (scaled_at c xs) (count n) (place n i) (place-lt n i (inside_is n i d)) in
        rw (d, low, u, y))
        (λ d. rw (d, low, u))

    pub lined-block : 1 < count n → {o : List Float} → o ≡ table (count r) (λ k. lined_at v c m x (index r k))
        → (r ≡ (joined_block false (raised limits v m x) (scaled c x)).lengths) × (o ≡ (joined_block false (raised limits v m x) (scaled c x)).places)
    unfolding joined_block
    lined-block big o =
        let less = count_less r n lined_in in
        let both : table (count r) (place_joined false up (scaled c x) r) ≡ joined false r up (scaled c x) =
        way-both false r up (scaled c x) (λ z. omega (arith, z)) (λ z. omega (arith, z)) in
        rw up_is (
          sym same_shape,
          o ∙ (table_same _ _ (count r) lined-place ∙ (both ∙ ap (λ (q : List ℕ). joined false q up (scaled c x)) (sym same_shape))),
        )

-- ---- the linear product

pub neither : (a b : Bool) → (a || b) ≡ false → (a ≡ false) × (b ≡ false)
neither true b h = (h, decide b (λ e. e ∙ h) (λ e. e))
neither false b h = (refl, h)

-- more than one place times a constant that is not one
pub by-scale : (limits : List ℕ) (c : Float) (x : Block) → (count x.lengths ≡ 1 → ⊥) → eq c one_f ≡ false
    → product_of 0 limits x (constant_block c) ≡ scaled c x
unfolding product_of shortcut span
by-scale limits c x n o = simp (ne_eqb _ _ n, o)

module _ (limits : List ℕ) (line : Linear) (x : Block) {d out : List Float} {r : List ℕ} where
  pub line-raised : eq line.c zero_f ≡ true → Put (raised limits line.variable line.m x) d out r
      → Stands (linear_product (λ y. product_of 0 limits y (constant_block line.c)) limits line x) out r
  unfolding linear_product
  line-raised z h = rw z (put-stands h)

  pub line-scaled : eq line.c zero_f ≡ false → eq line.c one_f ≡ false → 1 < count x.lengths
      → Put (joined_block false (raised limits line.variable line.m x) (scaled line.c x)) d out r
      → Stands (linear_product (λ y. product_of 0 limits y (constant_block line.c)) limits line x) out r
  unfolding linear_product
  line-scaled z o big h = rw (z, by-scale limits line.c x (λ q. omega (arith, q)) o) (put-stands h)
