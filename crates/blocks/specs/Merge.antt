-- Two blocks whose last variable is as long in both, with their last two variables taken as one: the same places, in
-- longer rows.
use Rattle.std.specs.Prelude.{ℕ, ◌+◌, ◌*◌, ◌≤◌, ◌<◌, List, [], ◌∷◌, Bool, ◌≡◌, refl, Float, get_or, ltb}
use Rattle.std.proofs.Common.{true≢false, sym, ◌∙◌, arith, one-mul, mul-pos, mul_assoc, add-mul, mul-le-mul}
use Rattle.std.proofs.Common.{mul-le-mul_right, le_refl, lit<, ltb-true, ltb-false}
use Rattle.std.proofs.Math.Path.{ap}
use Rattle.std.proofs.Math.Arith.{digits_lt}
use Rattle.std.specs.Float.{nan}
use Rattle.lists.specs.Test.{decide}
use Rattle.lists.specs.Four.{at}
use Rattle.lists.specs.Table.{table, table_same}
use Rattle.model.specs.Header.{count}
use Rattle.model.specs.Places.{place, index, inside}
use Rattle.model.specs.Poly.{block, read_at}
use Rattle.model.specs.Add.{join_at}
use Rattle.shape_words.specs.Lengths.{Sizes, Inside, count-is, inside_is, is_inside_lem, sizes-low}
use Rattle.shape_words.specs.Places.{horner, place-index, index-within, index_back}
use Rattle.blocks.specs.Rows.{Inner, Cutting, Joining, CuttingRows, JoiningRows}

-- the last two variables as one
unfoldable pub merge : List ℕ → List ℕ
merge n = 1 ∷ at n 0 ∷ at n 1 ∷ (at n 2 * at n 3) ∷ []

-- an index then, w the length of the last variable
up : ℕ → List ℕ → List ℕ
up w i = 0 ∷ at i 0 ∷ at i 1 ∷ (at i 2 * w + at i 3) ∷ []

count-merge : (n : List ℕ) → count (merge n) ≡ count n
unfolding merge
count-merge n = count-is (merge n) ∙ (one-mul _ ∙ sym (count-is n))

pub merge-sizes : {n : List ℕ} → Sizes n → Sizes (merge n)
unfolding merge
merge-sizes {n} g =
    record { p0 = omega arith; p1 = g.p0; p2 = g.p1; p3 = mul-pos g.p2 g.p3; most = rw (count-merge n) g.most }

-- they overflow no word
pub merge_low : {n : List ℕ} → Sizes n → at n 2 * at n 3 ≤ 16777216
unfolding merge
merge_low g = sizes-low (merge-sizes g) 3 (lit< tt)

place-merge : (n i : List ℕ) → place (merge n) (up (at n 3) i) ≡ place n i
unfolding merge up
place-merge n i = rw (horner (merge n) (up (at n 3) i), horner n i) (simp (add-mul, mul_assoc) (omega arith))

inside-merge : (n i : List ℕ) → at i 3 < at n 3 → inside (merge n) (up (at n 3) i) ≡ inside n i
unfolding merge up
inside-merge n i h =
    decide (inside n i)
    (λ t.
    let u = inside_is n i t in
    is_inside_lem {n = merge n} {i = up (at n 3) i} (record { i0 = omega arith; i1 = u.i0; i2 = u.i1; i3 = digits_lt u.i2 h }) ∙ sym t)
    (λ t.
    decide (inside (merge n) (up (at n 3) i))
    (λ s.
    let u = inside_is (merge n) (up (at n 3) i) s in
    decide (ltb (at i 2) (at n 2))
    (λ l. absurd (true≢false (sym (is_inside_lem {n = n} {i = i} (record { i0 = u.i1; i1 = u.i2; i2 = ltb-true _ _ l; i3 = h })) ∙ t)))
    (λ l. absurd (let m : at n 2 * at n 3 ≤ at i 2 * at n 3 = mul-le-mul_right (at n 3) (ltb-false _ _ l) in let v = u.i3 in omega arith)))
    (λ s. s ∙ sym t))

index-merge : (c : List ℕ) (k : ℕ) → Sizes c → k < count c → index (merge c) k ≡ up (at c 3) (index c k)
unfolding merge up
index-merge c k g h =
    let i : List ℕ = index c k in
    let t : Inside c i = index-within c k g h in
    ap (index (merge c)) (sym (place-merge c i ∙ place-index c k))
    ∙ index_back (merge c) (up (at c 3) i) t.i0 t.i1 (digits_lt t.i2 t.i3)

-- the blocks with the lengths m and d hold the same places as those with n and c, one inside the other
pub record Merged (n c m d : List ℕ) : Type 0 where
  pub from : Sizes m
  pub to : Sizes d
  pub as_many : count m ≡ count n
  pub as_long : count d ≡ count c
  pub reads : (k : ℕ) → k < count c → place m (index d k) ≡ place n (index c k)
  pub reaches : (k : ℕ) → k < count c → inside m (index d k) ≡ inside n (index c k)
  pub inner : Inner n c → Inner m d
  pub outer : Inner c n → Inner d m

pub merged-none : {n c : List ℕ} → Sizes n → Sizes c → Merged n c n c
merged-none g h =
    record { from = g; to = h; as_many = refl; as_long = refl; reads = λ k l. refl; reaches = λ k l. refl; inner = λ i. i; outer = λ i. i }

merge-inner : {n c : List ℕ} → Inner n c → Inner (merge n) (merge c)
unfolding merge
merge-inner i = record { c0 = le_refl 1; c1 = i.c0; c2 = i.c1; c3 = mul-le-mul i.c2 i.c3 }

pub merged-more : {n c m d : List ℕ} → Merged n c m d → at m 3 ≡ at d 3 → Merged n c (merge m) (merge d)
merged-more {n} {c} {m} {d} x e =
    let up_to : (k : ℕ) → k < count c → index (merge d) k ≡ up (at m 3) (index d k) =
    λ k l. index-merge d k x.to (omega (arith, x.as_long)) ∙ ap (λ (w : ℕ). up w (index d k)) (sym e) in
    let low : (k : ℕ) → k < count c → at (index d k) 3 < at m 3 = λ k l. omega (arith, e, (index-within d k x.to (omega (arith, x.as_long))).i3) in
    record {
      from = merge-sizes x.from;
      to = merge-sizes x.to;
      as_many = count-merge m ∙ x.as_many;
      as_long = count-merge d ∙ x.as_long;
      reads = λ k l. ap (place (merge m)) (up_to k l) ∙ (place-merge m (index d k) ∙ x.reads k l);
      reaches = λ k l. ap (inside (merge m)) (up_to k l) ∙ (inside-merge m (index d k) (low k l) ∙ x.reaches k l);
      inner = λ i. merge-inner (x.inner i);
      outer = λ i. merge-inner (x.outer i);
    }

-- what it gives `load` and `join_block`
module _ {n c m d : List ℕ} (x : Merged n c m d) where
  pub cutting-merged : {la lt : ℕ} → Cutting n c la lt → CuttingRows m d la lt
  cutting-merged q =
      record { from = x.from; to = x.to; inner = x.inner q.inner; room = omega (arith, x.as_many, q.room); full = q.full ∙ sym x.as_long }

  pub joining-merged : {la lt : ℕ} → Joining n c la lt → JoiningRows m d la lt
  joining-merged q =
      record { from = x.from; to = x.to; inner = x.outer q.inner; room = omega (arith, x.as_many, q.room); full = q.full ∙ sym x.as_long }

  pub cut-merged : (a : List Float) → table (count d) (λ k. read_at (block m a) (index d k)) ≡ table (count c) (λ k. read_at (block n a) (index c k))
  cut-merged a =
      ap (λ (z : ℕ). table z (λ k. read_at (block m a) (index d k))) x.as_long
      ∙ table_same _ _ (count c) (λ k l. ap (λ (p : ℕ). get_or a p nan) (x.reads k l))

  pub join-merged : (minus : Bool) (a old : List Float)
      → table (count d) (λ k. join_at minus (get_or old k nan) (block m a) (index d k))
      ≡ table (count c) (λ k. join_at minus (get_or old k nan) (block n a) (index c k))
  unfolding join_at
  join-merged minus a old =
      ap (λ (z : ℕ). table z (λ k. join_at minus (get_or old k nan) (block m a) (index d k))) x.as_long
      ∙ table_same _ _ (count c) (λ k l. rw (x.reaches k l, x.reads k l))
