-- Going through a block row by row: a row is the places that differ in the last variable alone.
use Rattle.std.specs.Prelude.{ℕ, suc, ◌+◌, ◌-◌, ◌*◌, ◌/◌, ◌%◌, ◌≤◌, ◌<◌, Bool, cond, ◌≡◌, ltb, length, get_or, Float}
use mathlib.Core.List.{List, [], ◌∷◌}
use Rattle.std.proofs.Common.{sym, ◌∙◌, mul_assoc, div-add-mod', mul-le-mul_right, div-lt_iff_lt-mul, add-zero, mul-le-mul, lit<}
use Rattle.std.proofs.Math.Path.{ap}
use native.Mathlib.Omega.{arith}
use Rattle.std.proofs.Math.Arith.{digits_mod, digits_div}
use Rattle.std.specs.Float.{nan}
use Rattle.lists.specs.Four.{at, four}
use Rattle.model.specs.Header.{count}
use Rattle.model.specs.Places.{place, index}
use Rattle.model.specs.Add.{join}
use Rattle.shape_words.specs.Lengths.{Lengths, Sizes, Inside, RowAt, count-is}
use Rattle.shape_words.specs.Places.{place-lt, index-within, place-index, horner}

-- a block with the lengths n holds one with the lengths c
pub record Inner (n c : List ℕ) : Type 0 where
  pub c0 : at c 0 ≤ at n 0
  pub c1 : at c 1 ≤ at n 1
  pub c2 : at c 2 ≤ at n 2
  pub c3 : at c 3 ≤ at n 3

pub inner_of : {n c : List ℕ} → ((k : ℕ) → k < 4 → at c k ≤ at n k) → Inner n c
inner_of h = record { c0 = h 0 (lit< tt); c1 = h 1 (lit< tt); c2 = h 2 (lit< tt); c3 = h 3 (lit< tt) }

-- lengths that are no greater have no greater count
pub count-inner : {n c : List ℕ} → Inner n c → count c ≤ count n
count-inner {n} {c} i = rw (count-is n, count-is c) (mul-le-mul i.c0 (mul-le-mul i.c1 (mul-le-mul i.c2 i.c3)))

pub inner-inside : {n c i : List ℕ} → Inner n c → Inside c i → Inside n i
inner-inside h t = record { i0 = omega arith; i1 = omega arith; i2 = omega arith; i3 = omega arith }

-- what a loop over the rows of a block with the lengths c has come to: the row that begins at the place p, with the
-- index i
pub record AtRow (c : List ℕ) (p : ℕ) (i : List ℕ) : Type 0 where
  pub is : i ≡ index c p
  pub begins : p % at c 3 ≡ 0

-- the number of rows
abbrev pub rows : List ℕ → ℕ
rows c = at c 0 * at c 1 * at c 2

pub count-rows : (c : List ℕ) → count c ≡ rows c * at c 3
count-rows c = count-is c ∙ simp mul_assoc

module _ {c : List ℕ} (g : Sizes c) where
  split : (p : ℕ) → p % at c 3 ≡ 0 → p ≡ p / at c 3 * at c 3
  split p z = sym (div-add-mod' p (at c 3)) ∙ (rw z (add-zero _))

  -- a whole row lies there
  pub row_fits : {p : ℕ} → p % at c 3 ≡ 0 → p < count c → p + at c 3 ≤ count c
  row_fits {p} z h =
      let k : p < rows c * at c 3 = rw (← count-rows c) h in
      let q : p / at c 3 < rows c = (div-lt_iff_lt-mul g.p3).1 k in
      let m : suc (p / at c 3) * at c 3 ≤ rows c * at c 3 = mul-le-mul_right (at c 3) q in
      rw (count-rows c) (omega (arith, split p z, m))

  pub at_first : AtRow c 0 (four (λ k. 0))
  unfolding index
  at_first =
      let e : (m : ℕ) → 0 ≡ 0 * m + 0 = λ m. omega arith in
      let z : (m : ℕ) → 0 < m → (0 / m ≡ 0) × (0 % m ≡ 0) =
      λ m h. (ap (λ (x : ℕ). x / m) (e m) ∙ digits_div 0 h, ap (λ (x : ℕ). x % m) (e m) ∙ digits_mod 0 h) in
      let a = z (at c 3) g.p3 in
      let b = z (at c 2) g.p2 in
      let d = z (at c 1) g.p1 in
      record { is = simp (a.0, a.1, b.0, b.1, d.0, d.1); begins = a.1 }

  -- the next row
  pub at_next : {p : ℕ} {i j : List ℕ} → AtRow c p i → j ≡ index c (place c i + at c 3) → AtRow c (p + at c 3) j
  at_next {p} {i} r e =
      let q : place c i ≡ p = ap (place c) r.is ∙ place-index c p in
      record {
        is = e ∙ ap (λ (x : ℕ). index c (x + at c 3)) q;
        begins =
            let k : p + at c 3 ≡ suc (p / at c 3) * at c 3 + 0 = omega (arith, split p r.begins) in
            rw k (digits_mod (suc (p / at c 3)) g.p3);
      }

  pub at_row : {p : ℕ} {i : List ℕ} → AtRow c p i → p < count c → RowAt c i
  unfolding index
  at_row {p} {i} r h = record { inside = rw r.is (index-within c p g h); begins = ap (λ (l : List ℕ). at l 3) r.is ∙ r.begins }

-- the place k of the row that begins at the index i
abbrev pub along_row : List ℕ → ℕ → List ℕ
along_row i k = at i 0 ∷ at i 1 ∷ at i 2 ∷ k ∷ []

-- the index of a place of a row
pub index-row : {c : List ℕ} {p : ℕ} {i : List ℕ} (k : ℕ) → AtRow c p i → k < at c 3 → index c (p + k) ≡ along_row i k
unfolding index
index-row {c} {p} k r h =
    let e : p + k ≡ p / at c 3 * at c 3 + k = ap (λ (x : ℕ). x + k) (sym (div-add-mod' p (at c 3)) ∙ (rw r.begins (add-zero _))) in
    let d : (p + k) / at c 3 ≡ p / at c 3 = ap (λ (x : ℕ). x / at c 3) e ∙ digits_div (p / at c 3) h in
    let m : (p + k) % at c 3 ≡ k = ap (λ (x : ℕ). x % at c 3) e ∙ digits_mod (p / at c 3) h in
    rw r.is (simp (d, m))

-- the place of an index along a row
pub place-row : (n i : List ℕ) (k : ℕ) → at i 3 ≡ 0 → place n (along_row i k) ≡ place n i + k
place-row n i k z = rw (horner n (along_row i k), horner n i, z) (omega arith)

-- as many as w places from an index on lie in a block whose rows are as long
pub along-fits : {n i : List ℕ} {w : ℕ} → Sizes n → Inside n i → at i 3 ≡ 0 → w ≤ at n 3 → place n i + w ≤ count n
along-fits {n} {i} {w} g t z h =
    let u : Inside n (along_row i (at n 3 - 1)) = let q = g.p3 in record { i0 = t.i0; i1 = t.i1; i2 = t.i2; i3 = omega arith } in
    let q = g.p3 in
    omega (arith, place-lt n (along_row i (at n 3 - 1)) u, place-row n i (at n 3 - 1) z)

-- what `load` and `join_block` ask: n and c the lengths of the blocks, m and l those of their buffers

pub record Cutting (n c : List ℕ) (m l : ℕ) : Type 0 where
  pub from : Lengths n
  pub to : Lengths c
  pub inner : Inner n c
  pub room : count n ≤ m
  pub full : l ≡ count c

pub record Joining (n r : List ℕ) (m l : ℕ) : Type 0 where
  pub from : Lengths n
  pub to : Lengths r
  pub inner : Inner r n
  pub room : count n ≤ m
  pub full : l ≡ count r

-- what their loops over rows ask, where lengths may be those of several variables together

pub record CuttingRows (n c : List ℕ) (m l : ℕ) : Type 0 where
  pub from : Sizes n
  pub to : Sizes c
  pub inner : Inner n c
  pub room : count n ≤ m
  pub full : l ≡ count c

pub record JoiningRows (n r : List ℕ) (m l : ℕ) : Type 0 where
  pub from : Sizes n
  pub to : Sizes r
  pub inner : Inner r n
  pub room : count n ≤ m
  pub full : l ≡ count r

-- each place of a line joined with one of another line, as far as that reaches
abbrev pub line_joined : Bool → List Float → List Float → ℕ → Float
line_joined minus xs old k = cond (ltb k (length xs)) (join minus (get_or old k nan) (get_or xs k nan)) (get_or old k nan)
