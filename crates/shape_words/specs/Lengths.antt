-- Lengths of 1 to 64, and indices that lie inside them.
use Rattle.std.specs.Prelude.{ℕ, ◌*◌, ◌≤◌, ◌<◌, List, Bool, true, ◌&&◌, ◌≡◌, ltb}
use Rattle.std.proofs.Common.{arith, mul-le-mul, mul-one, mul-pos, mul_comm, le_refl, ltb-true, lt-ltb, lit<}
use Rattle.lists.specs.Test.{and_left, and_right}
use Rattle.lists.specs.Four.{at, each}
use Rattle.model.specs.declared.Header.{Header}
use Rattle.model.specs.Header.{count, span}
use Rattle.model.specs.Places.{inside}
use Rattle.shape_words.specs.Rules.{Ruled}

pub record Lengths (n : List ℕ) : Type 0 where
  pub p0 : 0 < at n 0
  pub p1 : 0 < at n 1
  pub p2 : 0 < at n 2
  pub p3 : 0 < at n 3
  pub m0 : at n 0 ≤ 64
  pub m1 : at n 1 ≤ 64
  pub m2 : at n 2 ≤ 64
  pub m3 : at n 3 ≤ 64

-- three lengths of 1 to 64
pub record Small (p a b : ℕ) : Type 0 where
  pub p1 : 1 ≤ p
  pub a1 : 1 ≤ a
  pub b1 : 1 ≤ b
  pub p64 : p ≤ 64
  pub a64 : a ≤ 64
  pub b64 : b ≤ 64

pub lengths_of_lem : {h : Header} → Ruled h → Lengths h.lengths
lengths_of_lem g =
    record {
      p0 = g.v0.pos;
      p1 = g.v1.pos;
      p2 = g.v2.pos;
      p3 = g.v3.pos;
      m0 = omega (arith, g.v0);
      m1 = omega (arith, g.v1);
      m2 = omega (arith, g.v2);
      m3 = omega (arith, g.v3);
    }

pub lengths-pos : {n : List ℕ} → Lengths n → (k : ℕ) → k < 4 → 0 < at n k
lengths-pos {n} g = each (λ k. 0 < at n k) g.p0 g.p1 g.p2 g.p3

pub lengths-most : {n : List ℕ} → Lengths n → (k : ℕ) → k < 4 → at n k ≤ 64
lengths-most {n} g = each (λ k. at n k ≤ 64) g.m0 g.m1 g.m2 g.m3

-- a row that is stored has a number below 64
pub row_small : {n : List ℕ} {v k : ℕ} → Lengths n → v < 4 → k < at n v → k < 64
row_small {v = v} g h l = omega (arith, lengths-most g v h)

-- the count as a product of four numbers
pub count-is : (n : List ℕ) → count n ≡ at n 0 * (at n 1 * (at n 2 * at n 3))
unfolding span
count-is n = simp mul-one

pub size2 : {n : List ℕ} → Lengths n → at n 2 * at n 3 ≤ 4096
size2 g = mul-le-mul g.m2 g.m3

pub size3 : {n : List ℕ} → Lengths n → at n 1 * (at n 2 * at n 3) ≤ 262144
size3 g = mul-le-mul g.m1 (size2 g)

pub size4 : {n : List ℕ} → Lengths n → at n 0 * (at n 1 * (at n 2 * at n 3)) ≤ 16777216
size4 g = mul-le-mul g.m0 (size3 g)

pub count_most : {n : List ℕ} → Lengths n → count n ≤ 16777216
count_most {n} g = rw (count-is n) (size4 g)

pub count-pos : {n : List ℕ} → Lengths n → 0 < count n
count-pos {n} g = rw (count-is n) (mul-pos g.p0 (mul-pos g.p1 (mul-pos g.p2 g.p3)))

-- lengths of any size, with no more places than lengths of 1 to 64 can have
pub record Sizes (n : List ℕ) : Type 0 where
  pub p0 : 0 < at n 0
  pub p1 : 0 < at n 1
  pub p2 : 0 < at n 2
  pub p3 : 0 < at n 3
  pub most : count n ≤ 16777216

pub sizes-of : {n : List ℕ} → Lengths n → Sizes n
sizes-of g = record { p0 = g.p0; p1 = g.p1; p2 = g.p2; p3 = g.p3; most = count_most g }

pub no_less : (x m : ℕ) → 0 < m → x ≤ x * m
no_less x m h = rw (mul-one x) at (mul-le-mul (le_refl x) h)

no_less' : (x m : ℕ) → 0 < m → x ≤ m * x
no_less' x m h = rw (mul_comm x m) at (no_less x m h)

-- so each of them is small
pub sizes-low : {n : List ℕ} → Sizes n → (k : ℕ) → k < 4 → at n k ≤ 16777216
sizes-low {n} g =
    let z : ℕ = at n 2 * at n 3 in
    let y : ℕ = at n 1 * z in
    let u : at n 0 * y ≤ 16777216 = rw (count-is n) at g.most in
    let d : 0 < z = mul-pos g.p2 g.p3 in
    let e : 0 < y = mul-pos g.p1 d in
    let v : y ≤ 16777216 = omega (arith, u, no_less' y (at n 0) g.p0) in
    let w : z ≤ 16777216 = omega (arith, v, no_less' z (at n 1) g.p1) in
    each (λ k. at n k ≤ 16777216)
    (omega (arith, u, no_less (at n 0) y e))
    (omega (arith, v, no_less (at n 1) z d))
    (omega (arith, w, no_less (at n 2) (at n 3) g.p3))
    (omega (arith, w, no_less' (at n 3) (at n 2) g.p2))

-- an index that lies inside
pub record Inside (n i : List ℕ) : Type 0 where
  pub i0 : at i 0 < at n 0
  pub i1 : at i 1 < at n 1
  pub i2 : at i 2 < at n 2
  pub i3 : at i 3 < at n 3

-- an index that begins a row
pub record RowAt (n i : List ℕ) : Type 0 where
  pub inside : Inside n i
  pub begins : at i 3 ≡ 0

pub inside_is : (n i : List ℕ) → inside n i ≡ true → Inside n i
unfolding inside
inside_is n i h =
    let t : ℕ → Bool = λ k. ltb (at i k) (at n k) in
    let h2 = and_left ((t 0 && t 1) && t 2) (t 3) h in
    let h1 = and_left (t 0 && t 1) (t 2) h2 in
    record {
      i0 = ltb-true _ _ (and_left (t 0) (t 1) h1);
      i1 = ltb-true _ _ (and_right (t 0) (t 1) h1);
      i2 = ltb-true _ _ (and_right (t 0 && t 1) (t 2) h2);
      i3 = ltb-true _ _ (and_right ((t 0 && t 1) && t 2) (t 3) h);
    }

pub is_inside_lem : {n i : List ℕ} → Inside n i → inside n i ≡ true
unfolding inside
is_inside_lem t = simp (lt-ltb _ _ t.i0, lt-ltb _ _ t.i1, lt-ltb _ _ t.i2, lt-ltb _ _ t.i3)

pub inside-four : {n i : List ℕ} → ((k : ℕ) → k < 4 → at i k < at n k) → Inside n i
inside-four h = record { i0 = h 0 (lit< tt); i1 = h 1 (lit< tt); i2 = h 2 (lit< tt); i3 = h 3 (lit< tt) }

pub inside-at : {n i : List ℕ} → Inside n i → (k : ℕ) → k < 4 → at i k < at n k
inside-at {n} {i} t = each (λ k. at i k < at n k) t.i0 t.i1 t.i2 t.i3
