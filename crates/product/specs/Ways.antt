-- The ways of a product: which was chosen, what it makes, and what it asks for.
use Prim.Native.Nat.{ℕ, zero, suc, ◌+◌, ◌-◌, ◌≤◌, ◌<◌, min}
use mathlib.Core.List.{List, [], ◌∷◌, ◌++◌}
use Rattle.std.specs.Prelude.{Bool, true, false, ◌&&◌, cond, ◌≡◌, eqb, length, drop, Float}
use Rattle.std.proofs.Math.Path.{refl, ap}
use Rattle.std.proofs.Common.{sym, ◌∙◌, arith, le_trans, lit<, take_at}
use Rattle.std.proofs.Math.Nat.{le_refl}
use Rattle.std.proofs.Math.ListN.{set}
use Rattle.std.specs.Float.Ieee.{eq}
use borrow.Author.Tests.{eq-eqb, ne_eqb, eqb-false}
use Rattle.lists.specs.Table.{table, length-table}
use Rattle.lists.specs.Part.{below-same}
use Rattle.lists.specs.Four.{at, four, at-four, each, long, one-changed, at_same, at_other}
use Rattle.model.specs.declared.Linear.{Linear}
use Rattle.product.specs.declared.kernel.Way.{Way}
use Rattle.product.specs.declared.kernel.Way.TheVariants.{Right, Left, ScaledRight, ScaledLeft, LineRight, LineLeft, General}
use Rattle.model.specs.Header.{count, ones}
use Rattle.model.specs.Places.{index}
use Rattle.model.specs.Limits.{sum_shape, max_shape}
use Rattle.model.specs.Poly.{Block, block}
use Rattle.model.specs.Refusals.{zero_f}
use Rattle.model.specs.Readings.{first, one_f}
use Rattle.model.specs.Linear.{no_linear, linear}
use Rattle.model.specs.Add.{joined, joined_block}
use Rattle.model.specs.General.{general}
use Rattle.model.specs.Product.{is_constant, is_one, scaled, grown, raised, raised_at, constant_block, linear_product, product_of}
use Rattle.product.specs.Chosen.{chosen, plain_product, product-plainly, product-chosen, kind_of, line_of}
use Rattle.shape_words.specs.Lengths.{Lengths}
use Rattle.blocks.specs.Rows.{count-inner, inner_of}
use Rattle.product_general.specs.Rows.{Multiplying}
use Rattle.blocks.specs.Combine.{Combining}
use Rattle.laws_keeps.specs.Sits.{Sits, sum_at_lem}
use Rattle.product.specs.Room.{line_way, Caps, Under, RaisesTo, Plain, Joins, Put, Stands, Made}
use Rattle.product_linear.specs.Raise.{Raising}

-- ---- lengths

pub under-lengths : {l n : List ℕ} → Under l n → Caps l → Lengths n
under-lengths {l} {n} u c =
    let m : (k : ℕ) → k < 4 → at n k ≤ 64 = λ k h. le_trans (u.hi k h) (c.most k h) in
    record {
      p0 = u.lo 0 (lit< tt);
      p1 = u.lo 1 (lit< tt);
      p2 = u.lo 2 (lit< tt);
      p3 = u.lo 3 (lit< tt);
      m0 = m 0 (lit< tt);
      m1 = m 1 (lit< tt);
      m2 = m 2 (lit< tt);
      m3 = m 3 (lit< tt);
    }

pub count_less : (n c : List ℕ) → ((k : ℕ) → k < 4 → at c k ≤ at n k) → count c ≤ count n
count_less n c h = count-inner (inner_of h)

-- a block with such lengths sits under the limits, and the other way round
pub under-sits : {l n : List ℕ} {xs : List Float} → Under l n → length xs ≡ count n → Sits l (block n xs)
under-sits u f = record { ns = u.ns; lo = u.lo; hi = u.hi; full = f }

pub sits-under : {l : List ℕ} {b : Block} → Sits l b → Under l b.lengths
sits-under s = record { ns = s.ns; lo = s.lo; hi = s.hi }

pub under_more : {l r n : List ℕ} → ((k : ℕ) → k < 4 → at l k ≤ at r k) → Under l n → Under r n
under_more h u = record { ns = u.ns; lo = u.lo; hi = λ k g. le_trans (u.hi k g) (h k g) }

-- the lengths of a product
module _ {l n m : List ℕ} (u : Under l n) (t : Under l m) where
  pub shape-under : Under l (sum_shape l n m)
  unfolding sum_shape
  shape-under = record {
    ns = refl;
    lo = λ k h. rw (sum_at_lem l n m k h) (omega (arith, u.lo k h, u.hi k h, t.lo k h));
    hi = λ k h. rw (sum_at_lem l n m k h) (omega arith);
  }

  pub shape-left : (k : ℕ) → k < 4 → at n k ≤ at (sum_shape l n m) k
  shape-left k h = rw (sum_at_lem l n m k h) (omega (arith, u.hi k h, t.lo k h))

  pub shape-right : (k : ℕ) → k < 4 → at m k ≤ at (sum_shape l n m) k
  shape-right k h = rw (sum_at_lem l n m k h) (omega (arith, t.hi k h, u.lo k h))

-- the lengths with one row more in v
module _ {l n : List ℕ} (v : ℕ) (h : v < 4) (u : Under l n) where
  in_list : v < length n
  in_list = long n v (u.lo v h)

  pub grown-under : Under l (grown l v n)
  unfolding grown
  grown-under =
      let w : ℕ = min (at l v) (at n v + 1) in
      record {
        ns = set-four n v w u.ns;
        lo = one-changed (λ k y. 1 ≤ y) n v w in_list (omega (arith, u.lo v h, u.hi v h)) (λ k g o. u.lo k g);
        hi = one-changed (λ k y. y ≤ at l k) n v w in_list (omega arith) (λ k g o. u.hi k g);
      }
    where
      set-four : (n : List ℕ) (v x : ℕ) → n ≡ four (at n) → set n v x ≡ four (at (set n v x))
      set-four n v x e = ap (λ (m : List ℕ). set m v x) e ∙ by n v x ∙ ap (λ (m : List ℕ). four (at (set m v x))) (sym e)
        where
          by : (n : List ℕ) (v x : ℕ) → set (four (at n)) v x ≡ four (at (set (four (at n)) v x))
          by n zero x = refl
          by n (suc zero) x = refl
          by n (suc (suc zero)) x = refl
          by n (suc (suc (suc zero))) x = refl
          by n (suc (suc (suc (suc v)))) x = refl

  pub grown_in : (k : ℕ) → k < 4 → at n k ≤ at (grown l v n) k
  unfolding grown
  grown_in = one-changed (λ k y. at n k ≤ y) n v (min (at l v) (at n v + 1)) in_list (omega (arith, u.hi v h)) (λ k g o. le_refl _)

  -- under what takes n and one row more in v
  pub grown-fits : (r : List ℕ) → ((k : ℕ) → k < 4 → at n k ≤ at r k) → min (at l v) (at n v + 1) ≤ at r v → (k : ℕ) → k < 4 → at (grown l v n) k ≤ at r k
  unfolding grown
  grown-fits r f e = one-changed (λ k y. y ≤ at r k) n v (min (at l v) (at n v + 1)) in_list e (λ k g o. f k g)

  pub grown-other : (w : ℕ) → w < 4 → (w ≡ v → ⊥) → at (grown l v n) w ≡ at n w
  unfolding grown
  grown-other w g o = at_other n v w (min (at l v) (at n v + 1)) o

  pub grown-one : at (grown l v n) v ≤ at n v + 1
  unfolding grown
  grown-one = rw (at_same n v (min (at l v) (at n v + 1)) in_list) (omega arith)

pub ones-under : {l n : List ℕ} → Under l n → Under l ones
ones-under {l} {n} u =
    let o : (k : ℕ) → k < 4 → 1 ≤ at l k = λ k h. le_trans (u.lo k h) (u.hi k h) in
    record {
      ns = refl;
      lo = each (λ k. 1 ≤ at ones k) (lit< tt) (lit< tt) (lit< tt) (lit< tt);
      hi = each (λ k. at ones k ≤ at l k) (o 0 (lit< tt)) (o 1 (lit< tt)) (o 2 (lit< tt)) (o 3 (lit< tt));
    }

-- beside a constant no more than the other's lengths
pub shape_one : {l n : List ℕ} → Under l n → (k : ℕ) → k < 4 → at (sum_shape l n ones) k ≤ at n k
shape_one {l} {n} u k h = rw (sum_at_lem l n ones k h) (omega (arith, at-four (λ k. 1) k h))

-- ---- what was written

pub put_same : {p q : Block} {d out : List Float} {r : List ℕ} → p ≡ q → Put q d out r → Put p d out r
put_same e w = rw e w

pub made-same : {p q : Block} {s : ℕ} {w w' out : List Float} {r : List ℕ} → p ≡ q → Made q s w w' out r → Made p s w w' out r
made-same e m = rw e m

pub put-stands : {p : Block} {d out : List Float} {r : List ℕ} → Put p d out r → Stands p out r
put-stands {p} {d} w = record { lengths = w.lengths; front = rw w.is (take_at p.places (drop (length p.places) d) (length p.places) refl) }

pub put-made : {p : Block} {d out w : List Float} {s : ℕ} {r : List ℕ} → Put p d out r → Made p s w w out r
put-made w = record { stands = put-stands w; below = below-same }

-- the front of a buffer became xs
pub put_front_lem : {p : Block} {d out xs : List Float} {r : List ℕ} (z : ℕ) → r ≡ p.lengths → xs ≡ p.places
    → length xs ≡ z → out ≡ xs ++ drop z d → Put p d out r
put_front_lem {p} {d} {out} {xs} z e x l o = record { lengths = e; is = o ∙ (rw (← l, ← x)) }

pub put-zero : (out : List Float) → 0 < length out → Put (constant_block zero_f) out (set out 0 zero_f) ones
put-zero [] h = absurd (omega arith)
put-zero (x ∷ out) h = record { lengths = refl; is = refl }

-- ---- which way

module _ (stage : ℕ) (a b : Block) (na nb : ℕ) where
  pub choose-is : na ≡ count a.lengths → nb ≡ count b.lengths
      → chosen stage a b
      ≡ cond (eqb na 1 && eq (first a.places) one_f) Right
      (cond (eqb nb 1 && eq (first b.places) one_f) Left
      (cond (eqb na 1) (ScaledRight (first a.places)) (cond (eqb nb 1) (ScaledLeft (first b.places))
      (cond (eqb stage 0) General (line_way a b)))))
  unfolding chosen
  choose-is e f = rw (e, f)

-- the line of a way by a line
pub record Lined (stage : ℕ) (l : Linear) (w : Way) (k : Linear → Way) : Type 0 where
  pub some : 0 < stage
  pub yes : l.yes ≡ true
  pub is : w ≡ k l

pos_of : (n : ℕ) → eqb n 0 ≡ false → 0 < n
pos_of n e = let h = eqb-false n 0 e in omega arith

chain-four : (stage : ℕ) (b1 b2 b3 b4 b5 : Bool) (l6 l7 : Linear) (l2 l3 : Float) (b6 b7 : Bool) → eqb stage 0 ≡ b5 → l6.yes ≡ b6
    → kind_of (cond b1 Right (cond b2 Left
    (cond b3 (ScaledRight l2)
    (cond b4 (ScaledLeft l3) (cond b5 General (cond b6 (LineRight l6) (cond b7 (LineLeft l7) General))))))) ≡ 4
    → Lined stage l6 (cond b1 Right
    (cond b2 Left (cond b3 (ScaledRight l2)
    (cond b4 (ScaledLeft l3) (cond b5 General (cond b6 (LineRight l6) (cond b7 (LineLeft l7) General))))))) LineRight
chain-four stage true b2 b3 b4 b5 l6 l7 l2 l3 b6 b7 e f h = absurd (omega (arith, h))
chain-four stage false true b3 b4 b5 l6 l7 l2 l3 b6 b7 e f h = absurd (omega (arith, h))
chain-four stage false false true b4 b5 l6 l7 l2 l3 b6 b7 e f h = absurd (omega (arith, h))
chain-four stage false false false true b5 l6 l7 l2 l3 b6 b7 e f h = absurd (omega (arith, h))
chain-four stage false false false false true l6 l7 l2 l3 b6 b7 e f h = absurd (omega (arith, h))
chain-four stage false false false false false l6 l7 l2 l3 true b7 e f h = record { some = pos_of stage e; yes = f; is = refl }
chain-four stage false false false false false l6 l7 l2 l3 false true e f h = absurd (omega (arith, h))
chain-four stage false false false false false l6 l7 l2 l3 false false e f h = absurd (omega (arith, h))

chain_five : (stage : ℕ) (b1 b2 b3 b4 b5 : Bool) (l6 l7 : Linear) (l2 l3 : Float) (b6 b7 : Bool) → eqb stage 0 ≡ b5 → l7.yes ≡ b7
    → kind_of (cond b1 Right (cond b2 Left
    (cond b3 (ScaledRight l2)
    (cond b4 (ScaledLeft l3) (cond b5 General (cond b6 (LineRight l6) (cond b7 (LineLeft l7) General))))))) ≡ 5
    → Lined stage l7 (cond b1 Right
    (cond b2 Left (cond b3 (ScaledRight l2)
    (cond b4 (ScaledLeft l3) (cond b5 General (cond b6 (LineRight l6) (cond b7 (LineLeft l7) General))))))) LineLeft
chain_five stage true b2 b3 b4 b5 l6 l7 l2 l3 b6 b7 e f h = absurd (omega (arith, h))
chain_five stage false true b3 b4 b5 l6 l7 l2 l3 b6 b7 e f h = absurd (omega (arith, h))
chain_five stage false false true b4 b5 l6 l7 l2 l3 b6 b7 e f h = absurd (omega (arith, h))
chain_five stage false false false true b5 l6 l7 l2 l3 b6 b7 e f h = absurd (omega (arith, h))
chain_five stage false false false false true l6 l7 l2 l3 b6 b7 e f h = absurd (omega (arith, h))
chain_five stage false false false false false l6 l7 l2 l3 true b7 e f h = absurd (omega (arith, h))
chain_five stage false false false false false l6 l7 l2 l3 false true e f h = record { some = pos_of stage e; yes = f; is = refl }
chain_five stage false false false false false l6 l7 l2 l3 false false e f h = absurd (omega (arith, h))

module _ (stage : ℕ) (a b : Block) where
  pub chosen-four : (kind_of (chosen stage a b)) ≡ 4 → Lined stage (linear a) (chosen stage a b) LineRight
  unfolding chosen
  chosen-four h =
      chain-four stage (is_one a) (is_one b) (is_constant a) (is_constant b) (eqb stage 0) (linear a) (linear b)
      (first a.places) (first b.places) (linear a).yes (linear b).yes refl refl h

  pub chosen_five : (kind_of (chosen stage a b)) ≡ 5 → Lined stage (linear b) (chosen stage a b) LineLeft
  unfolding chosen
  chosen_five h =
      chain_five stage (is_one a) (is_one b) (is_constant a) (is_constant b) (eqb stage 0) (linear a) (linear b)
      (first a.places) (first b.places) (linear a).yes (linear b).yes refl refl h

-- ---- what a way makes

module _ (limits : List ℕ) (a b : Block) where
  abbrev pub by_c : ℕ → Float → Block → Block
  by_c s c x = product_of s limits x (constant_block c)

  pub product-four : (stage : ℕ) → (kind_of (chosen stage a b)) ≡ 4
      → product_of stage limits a b ≡ linear_product (by_c (stage - 1) (line_of (chosen stage a b)).c) limits
      (line_of (chosen stage a b)) b
  product-four zero h = absurd (omega (arith, (chosen-four 0 a b h).some))
  product-four (suc s) h =
      let e : suc s - 1 ≡ s = omega arith in
      product-chosen limits a b s ∙ rw (e, eq-eqb _ _ h)

  pub product_five : (stage : ℕ) → (kind_of (chosen stage a b)) ≡ 5
      → product_of stage limits a b ≡ linear_product (by_c (stage - 1) (line_of (chosen stage a b)).c) limits
      (line_of (chosen stage a b)) a
  product_five zero h = absurd (omega (arith, (chosen_five 0 a b h).some))
  product_five (suc s) h =
      let e : suc s - 1 ≡ s = omega arith in
      let n : eqb (kind_of (chosen (suc s) a b)) 4 ≡ false = ap (λ (k : ℕ). eqb k 4) h in
      product-chosen limits a b s ∙ rw (e, n, eq-eqb _ _ h)

  pub product-plain : (stage : ℕ) → ((kind_of (chosen stage a b)) ≡ 4 → ⊥) → ((kind_of (chosen stage a b)) ≡ 5 → ⊥)
      → product_of stage limits a b ≡ plain_product limits (kind_of (chosen stage a b)) (line_of (chosen stage a b)).c a b
  product-plain zero h k = product-plainly limits a b
  product-plain (suc s) h k = product-chosen limits a b s ∙ rw (ne_eqb _ _ h, ne_eqb _ _ k)

module _ (limits : List ℕ) (c : Float) (a b : Block) where
  pub plain_0 : (k : ℕ) → k ≡ 0 → plain_product limits k c a b ≡ b
  unfolding plain_product
  plain_0 k e = rw e

  pub plain_1 : (k : ℕ) → k ≡ 1 → plain_product limits k c a b ≡ a
  unfolding plain_product
  plain_1 k e = rw e

  pub plain_2 : (k : ℕ) → k ≡ 2 → plain_product limits k c a b ≡ scaled c b
  unfolding plain_product
  plain_2 k e = rw e

  pub plain_3 : (k : ℕ) → k ≡ 3 → plain_product limits k c a b ≡ scaled c a
  unfolding plain_product
  plain_3 k e = rw e

  pub plain_6 : (k : ℕ) → (k ≡ 0 → ⊥) → (k ≡ 1 → ⊥) → (k ≡ 2 → ⊥) → (k ≡ 3 → ⊥)
      → plain_product limits k c a b ≡ block (sum_shape limits a.lengths b.lengths)
      (general a.lengths b.lengths (sum_shape limits a.lengths b.lengths) a.places b.places)
  unfolding plain_product
  plain_6 k e0 e1 e2 e3 = rw (ne_eqb _ _ e0, ne_eqb _ _ e1, ne_eqb _ _ e2, ne_eqb _ _ e3)

-- ---- what the plain ways ask

module _ {la lb limits : List ℕ} {ma mb mo : ℕ} (p : Plain la lb limits ma mb mo) where
  pub plain-lens : Lengths la × Lengths lb
  plain-lens = (under-lengths p.left p.caps, under-lengths p.right p.caps)

  pub plain-room-a : ma ≤ mo
  plain-room-a = omega (arith, p.full_a, p.fits, count_less (sum_shape limits la lb) la (shape-left p.left p.right))

  pub plain-room-b : mb ≤ mo
  plain-room-b = omega (arith, p.full_b, p.fits, count_less (sum_shape limits la lb) lb (shape-right p.left p.right))

  module _ {r : List ℕ} (e : r ≡ sum_shape limits la lb) where
    pub plain-whole : Lengths r
    plain-whole = rw e (under-lengths (shape-under p.left p.right) p.caps)

    pub plain_fits : {z : ℕ} → z ≡ count r → z ≤ mo
    plain_fits z = omega (arith, z, ap count e, p.fits)

    pub plain-general : {k : ℕ} → k ≡ count r → Multiplying la lb r ma mb k
    plain-general k = record {
      left = plain-lens.0;
      right = plain-lens.1;
      result = plain-whole;
      room_x = omega (arith, p.full_a);
      room_y = omega (arith, p.full_b);
      full = k;
    }

-- ---- sums

module _ {n m : List ℕ} {ma mb mo : ℕ} (j : Joins n m ma mb mo) {r : List ℕ} (e : r ≡ max_shape n m) where
  pub joins-whole : Lengths r
  unfolding max_shape
  joins-whole =
      let g = j.left in
      let h = j.right in
      rw e (record {
        p0 = omega arith;
        p1 = omega arith;
        p2 = omega arith;
        p3 = omega arith;
        m0 = omega arith;
        m1 = omega arith;
        m2 = omega arith;
        m3 = omega arith;
      })

  pub joins-fits : {z : ℕ} → z ≡ count r → z ≤ mo
  joins-fits z = omega (arith, z, ap count e, j.fits)

  pub joins-combine : {k : ℕ} → k ≡ count r → Combining n m r ma mb k
  joins-combine k = record { left = j.left; right = j.right; result = joins-whole; shape = e; full_a = j.full_a; full_b = j.full_b; full = k }

pub joined_is : (n m : List ℕ) (a b : List Float) {r : List ℕ} {o : List Float} → r ≡ max_shape n m → o ≡ joined false r (block n a) (block m b)
    → (r ≡ (joined_block false (block n a) (block m b)).lengths) × (o ≡ (joined_block false (block n a) (block m b)).places)
unfolding joined_block
joined_is n m a b e o = (e, o ∙ (rw e))

-- ---- the raised block

module _ {n : List ℕ} {v : ℕ} {limits : List ℕ} {ma mo : ℕ} (t : RaisesTo n v limits ma mo) where
  pub raises-lens : Lengths n
  raises-lens = under-lengths t.under t.caps

  module _ {r : List ℕ} (e : r ≡ grown limits v n) where
    pub raises-whole : Lengths r
    raises-whole = rw e (under-lengths (grown-under v t.var t.under) t.caps)

    pub raises-fits : {z : ℕ} → z ≡ count r → z ≤ mo
    raises-fits z = omega (arith, z, ap count e, t.fits)

    pub raises-raise : {k : ℕ} → k ≡ count r → Raising n v r ma k
    raises-raise k = record {
      var = t.var;
      from = raises-lens;
      to = raises-whole;
      other = rw e (grown-other v t.var t.under);
      one = rw e (grown-one v t.var t.under);
      room = omega (arith, t.full);
      full = k;
    }

pub raised_is : (limits n : List ℕ) (v : ℕ) (m : Float) (a : List Float) {r : List ℕ} {o : List Float}
    → r ≡ grown limits v n → o ≡ table (count r) (λ k. raised_at v m (block n a) (index r k))
    → (r ≡ (raised limits v m (block n a)).lengths) × (o ≡ (raised limits v m (block n a)).places)
unfolding raised
raised_is limits n v m a e o = (e, o ∙ (rw e))

pub raised-lengths : (limits : List ℕ) (v : ℕ) (m : Float) (x : Block) → (raised limits v m x).lengths ≡ grown limits v x.lengths
unfolding raised
raised-lengths limits v m x = refl

pub raised-full : (limits : List ℕ) (v : ℕ) (m : Float) (x : Block) → length (raised limits v m x).places ≡ count (grown limits v x.lengths)
unfolding raised
raised-full limits v m x = length-table _ (count (grown limits v x.lengths))
