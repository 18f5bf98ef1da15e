-- Place and index are inverse on the places of a block, and a place stays below the count.
use Rattle.std.specs.Prelude.{ℕ, ◌+◌, ◌*◌, ◌/◌, ◌%◌, ◌≤◌, ◌<◌, List, [], ◌∷◌, ◌≡◌, refl}
use Rattle.std.proofs.Common.{sym, ◌∙◌, arith, div-add-mod', mul_assoc, add-mul, mul-one, mod-lt, div-lt_iff_lt-mul}
use Rattle.std.proofs.Math.Arith.{digits_lt, digits_div, digits_mod}
use Rattle.lists.specs.Four.{at, four}
use Rattle.model.specs.Header.{span, count}
use Rattle.model.specs.Places.{strides, offset, place, index}
use Rattle.shape_words.specs.Lengths.{Lengths, Sizes, Inside, sizes-of, no_less, count-is}

-- the place by Horner's rule, from the first variable to the last
pub horner : (n i : List ℕ) → place n i ≡ ((at i 0 * at n 1 + at i 1) * at n 2 + at i 2) * at n 3 + at i 3
unfolding offset strides span
horner n i = simp (add-mul, mul-one, mul_assoc)

count_left : (n : List ℕ) → count n ≡ at n 0 * at n 1 * at n 2 * at n 3
count_left n = count-is n ∙ simp mul_assoc

pub place-lt : (n i : List ℕ) → Inside n i → place n i < count n
place-lt n i h = rw (horner n i, count_left n) (digits_lt (digits_lt (digits_lt h.i0 h.i1) h.i2) h.i3)

pub index-within : (n : List ℕ) (p : ℕ) → Sizes n → p < count n → Inside n (index n p)
unfolding index
index-within n p g h =
    let k : p < at n 0 * at n 1 * at n 2 * at n 3 = rw (← count_left n) h in
    record {
      i0 = (div-lt_iff_lt-mul g.p1).1 ((div-lt_iff_lt-mul g.p2).1 ((div-lt_iff_lt-mul g.p3).1 k));
      i1 = mod-lt _ g.p1;
      i2 = mod-lt _ g.p2;
      i3 = mod-lt _ g.p3;
    }

pub index-inside : (n : List ℕ) (p : ℕ) → Lengths n → p < count n → Inside n (index n p)
index-inside n p g h = index-within n p (sizes-of g) h

-- a place's index leads back to it
pub place-index : (n : List ℕ) (p : ℕ) → place n (index n p) ≡ p
unfolding index
place-index n p = rw (horner n (index n p)) (simp div-add-mod')

-- an index's place leads back to it; the first variable's number need not be inside
pub index_back : (n i : List ℕ) → at i 1 < at n 1 → at i 2 < at n 2 → at i 3 < at n 3 → index n (place n i) ≡ four (at i)
unfolding index
index_back n i i1 i2 i3 =
    let q2 : ℕ = at i 0 * at n 1 + at i 1 in
    let q3 : ℕ = q2 * at n 2 + at i 2 in
    let d3 : place n i / at n 3 ≡ q3 = rw (horner n i) (digits_div q3 i3) in
    let m3 : place n i % at n 3 ≡ at i 3 = rw (horner n i) (digits_mod q3 i3) in
    simp (d3, m3, digits_div q2 i2, digits_mod q2 i2, digits_div (at i 0) i1, digits_mod (at i 0) i1)

pub index-place : (n i : List ℕ) → Inside n i → index n (place n i) ≡ four (at i)
index-place n i h = index_back n i h.i1 h.i2 h.i3

-- no step of working out a place overflows
pub record Steps (n i : List ℕ) : Type 0 where
  pub first : at i 0 * at n 1 + at i 1 ≤ 16777216
  pub second : (at i 0 * at n 1 + at i 1) * at n 2 + at i 2 ≤ 16777216
  pub last : ((at i 0 * at n 1 + at i 1) * at n 2 + at i 2) * at n 3 + at i 3 ≤ 16777216

pub place_steps_lem : (n i : List ℕ) → Sizes n → Inside n i → Steps n i
place_steps_lem n i g h =
    let x : ℕ = at i 0 * at n 1 + at i 1 in
    let y : ℕ = x * at n 2 + at i 2 in
    let l : y * at n 3 + at i 3 ≤ 16777216 = let m : place n i ≤ 16777216 = omega (arith, place-lt n i h, g.most) in rw (horner n i) at m in
    let u : y ≤ 16777216 = omega (arith, l, no_less y (at n 3) g.p3) in
    record { first = omega (arith, u, no_less x (at n 2) g.p2); second = u; last = l }

-- The index of the next row, the last variable's number 0: one more in the last variable but one that has room for it.

-- place and row length add up
rows-add : (x a b n2 n3 : ℕ) → a * n2 + b ≡ x + 1 → (a * n2 + b) * n3 + 0 ≡ x * n3 + 0 + n3
rows-add x a b n2 n3 e = rw e (omega arith)

module _ (n i : List ℕ) (g : Sizes n) (z : at i 3 ≡ 0) where
  abbrev row_of : ℕ
  row_of = (at i 0 * at n 1 + at i 1) * at n 2 + at i 2

  -- an index j whose row is the next one
  next : (j : List ℕ) → at j 1 < at n 1 → at j 2 < at n 2 → at j 3 ≡ 0
      → (at j 0 * at n 1 + at j 1) * at n 2 + at j 2 ≡ row_of + 1 → four (at j) ≡ index n (place n i + at n 3)
  next j j1 j2 j3 e =
      let p : place n j ≡ place n i + at n 3 = rw (horner n j, horner n i, j3, z) (rows-add row_of _ (at j 2) (at n 2) (at n 3) e) in
      rw (← p) (sym (index_back n j j1 j2 (let q = g.p3 in omega arith)))

  pub next_2 : at i 1 < at n 1 → at i 2 + 1 < at n 2 → at i 0 ∷ at i 1 ∷ (at i 2 + 1) ∷ 0 ∷ [] ≡ index n (place n i + at n 3)
  next_2 i1 h = next (at i 0 ∷ at i 1 ∷ (at i 2 + 1) ∷ 0 ∷ []) i1 h refl (omega arith)

  pub next_1 : at i 1 + 1 < at n 1 → at n 2 ≡ at i 2 + 1 → at i 0 ∷ (at i 1 + 1) ∷ 0 ∷ 0 ∷ [] ≡ index n (place n i + at n 3)
  next_1 i1 h =
      next (at i 0 ∷ (at i 1 + 1) ∷ 0 ∷ 0 ∷ []) i1 g.p2 refl
      (let e : (at i 0 * at n 1 + (at i 1 + 1)) * at n 2 + 0 ≡ (at i 0 * at n 1 + at i 1) * at n 2 + at n 2 =
      omega arith in omega (arith, h, e))

  pub next_0 : at n 1 ≡ at i 1 + 1 → at n 2 ≡ at i 2 + 1 → (at i 0 + 1) ∷ 0 ∷ 0 ∷ 0 ∷ [] ≡ index n (place n i + at n 3)
  next_0 i1 h =
      next ((at i 0 + 1) ∷ 0 ∷ 0 ∷ 0 ∷ []) g.p1 g.p2 refl
      (let e : ((at i 0 + 1) * at n 1 + 0) * at n 2 + 0 ≡ (at i 0 * at n 1 + at n 1) * at n 2 = omega arith in
      let k : (at i 0 * at n 1 + at n 1) * at n 2 ≡ (at i 0 * at n 1 + at i 1) * at n 2 + at n 2 = rw (i1) (omega arith) in
      omega (arith, e, k, h))
