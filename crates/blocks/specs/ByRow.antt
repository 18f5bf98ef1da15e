-- A loop that fills a block with f row by row; and the rows that `load_rows` and `join_rows` make.
use Rattle.std.specs.Prelude.{ℕ, ◌+◌, ◌-◌, ◌*◌, ◌≤◌, ◌<◌, List, ◌++◌, Bool, true, false, ◌≡◌, ltb, take, drop, Float}
use Rattle.std.proofs.Math.Path.{sym, ap}
use Rattle.std.proofs.Common.{◌∙◌, arith, le_refl, length-take, length-drop, get_or-drop, drop-drop, mul-le-mul_left, mul-le-mul_right}
use Rattle.std.proofs.Math.ListN.{length, get_or}
use Rattle.std.proofs.Math.Seq.{get_or-take, take-take}
use borrow.Rule.Slice.PartMut.{put_mid}
use Rattle.std.specs.Float.Ieee.{nan}
use borrow.Author.Tests.{ltb-true, ltb-false}
use Rattle.lists.specs.Test.{decide}
use Rattle.lists.specs.Four.{at, four}
use Rattle.lists.specs.Table.{table, table_same, table-all, Filled, filled_none}
use Rattle.model.specs.Header.{count}
use Rattle.model.specs.Places.{place, index, inside}
use Rattle.model.specs.Poly.{block, read_at}
use Rattle.model.specs.Add.{join_at}
use Rattle.shape_words.specs.Lengths.{Sizes, Inside, RowAt, inside_is, is_inside_lem}
use Rattle.lists.specs.Fill.{filled_row, filled-rest, filled-all, part-table}
use Rattle.blocks.specs.Rows.{AtRow, at_first, at_next, at_row, row_fits, rows, count-rows, along_row, index-row, place-row}
use Rattle.blocks.specs.Rows.{along-fits, CuttingRows, JoiningRows, inner-inside, line_joined}

-- the rows before the place p are done, and i is the index of p
pub record ByRow (c : List ℕ) (f : ℕ → Float) (d out : List Float) (p : ℕ) (i : List ℕ) : Type 0 where
  pub most : p ≤ count c
  pub row : AtRow c p i
  pub done : Filled p f d out

module _ {c : List ℕ} {f : ℕ → Float} {d : List Float} (g : Sizes c) (full : length d ≡ count c) where
  pub by-none : ByRow c f d d 0 (four (λ k. 0))
  by-none = record { most = omega arith; row = at_first g; done = filled_none }

  pub by-more : {out row : List Float} {p : ℕ} {i j : List ℕ} → ByRow c f d out p i → p < count c → row ≡ table (at c 3) (λ k. f (p + k))
      → j ≡ index c (place c i + at c 3) → ByRow c f d (take p out ++ (row ++ drop (p + at c 3) out)) (p + at c 3) j
  by-more {p = p} b h r e =
      let m : p + at c 3 ≤ count c = row_fits g b.row.begins h in
      record { most = m; row = at_next g b.row e; done = filled_row (at c 3) b.done r (omega arith) }

  -- as a part that was lent comes back
  pub by-put : {out row : List Float} {p m : ℕ} {i j : List ℕ} → ByRow c f d out p i → p < count c → m ≡ at c 3 → row ≡ table (at c 3) (λ k. f (p + k))
      → j ≡ index c (place c i + at c 3) → ByRow c f d (put_mid p m out row) (p + at c 3) j
  by-put {out} {row} {p} {m} {i} {j} b h e r k =
      let q : put_mid p m out row ≡ take p out ++ (row ++ drop (p + at c 3) out) =
      rw e (ap (λ (l : List Float). take p out ++ (row ++ l)) (drop-drop (at c 3) p out)) in
      rw q (by-more b h r k)

  pub by_end : {out : List Float} {p : ℕ} {i : List ℕ} → ByRow c f d out p i → count c ≤ p → out ≡ table (count c) f
  by_end {p = p} b h = let m = b.most in filled-all b.done (omega arith) (omega arith) ∙ ap (λ (n : ℕ). table n f) full

  pub by_fits : {out : List Float} {p : ℕ} {i : List ℕ} → ByRow c f d out p i → p < count c → p + at c 3 ≤ length out
  by_fits b h = omega (arith, row_fits g b.row.begins h, b.done.len)

  pub by-len : {out : List Float} {p : ℕ} {i : List ℕ} → ByRow c f d out p i → length out ≡ count c
  by-len b = b.done.len ∙ full

-- the number of rows is small
pub rows-small : {c : List ℕ} → Sizes c → (at c 0 * at c 1 ≤ 16777216) × (at c 0 * at c 1 * at c 2 ≤ 16777216)
rows-small {c} g =
    let x : rows c * 1 ≤ rows c * at c 3 = mul-le-mul_left (rows c) g.p3 in
    let y : at c 0 * at c 1 * 1 ≤ rows c = mul-le-mul_left (at c 0 * at c 1) g.p2 in
    (omega (arith, x, y, count-rows c, g.most), omega (arith, x, count-rows c, g.most))

-- the loop over the rows, from row to row
module _ {c : List ℕ} (g : Sizes c) (row : ℕ) where
  pub row-begins : row < at c 0 * at c 1 * at c 2 → row * at c 3 < count c
  row-begins h =
      let x : (row + 1) * at c 3 ≤ rows c * at c 3 = mul-le-mul_right (at c 3) (omega arith) in
      omega (arith, x, count-rows c, g.p3)

  pub rows-end : at c 0 * at c 1 * at c 2 ≤ row → count c ≤ row * at c 3
  rows-end h =
      let x : rows c * at c 3 ≤ row * at c 3 = mul-le-mul_right (at c 3) h in
      omega (arith, x, count-rows c)

module _ {c : List ℕ} {f : ℕ → Float} {d : List Float} (g : Sizes c) (full : length d ≡ count c) where
  pub by-start : ByRow c f d d (0 * at c 3) (four (λ k. 0))
  by-start = let z : 0 * at c 3 ≡ 0 = omega arith in rw z (by-none g full)

  pub by-row : (row : ℕ) {out new : List Float} {m : ℕ} {i j : List ℕ} → ByRow c f d out (row * at c 3) i → row * at c 3 < count c
      → m ≡ at c 3 → new ≡ table (at c 3) (λ k. f (row * at c 3 + k))
      → j ≡ index c (place c i + at c 3) → ByRow c f d (put_mid (row * at c 3) m out new) ((row + 1) * at c 3) j
  by-row row b h e r k = let x : (row + 1) * at c 3 ≡ row * at c 3 + at c 3 = omega arith in rw x (by-put g full b h e r k)

  pub by-rows : (row : ℕ) {out : List Float} {i : List ℕ} → ByRow c f d out (row * at c 3) i → at c 0 * at c 1 * at c 2 ≤ row → out ≡ table (count c) f
  by-rows row b h = by_end g full b (rows-end g row h)

-- a row of w places that was copied from one place to another
pub copied : (w at' from : ℕ) (a out : List Float) {new : List Float} → at' + w ≤ length out
    → new ≡ take (length (take (at' + w - at') (drop at' out))) (take (from + w - from) (drop from a)) → new ≡ take w (drop from a)
copied w at' from a out fit e =
    let k : at' + w - at' ≡ w = omega arith in
    let z : from + w - from ≡ w = omega arith in
    let n : length (take w (drop at' out)) ≡ w = simp (length-take, length-drop) (omega arith) in
    e ∙ (rw (k, n, z) (take-take w w _ (omega arith)))

-- a row that is cut out of a block with greater lengths
module _ (n c : List ℕ) (a d : List Float) (q : CuttingRows n c (length a) (length d)) {out : List Float} {p : ℕ}
    {i : List ℕ} (b : ByRow c (λ k. read_at (block n a) (index c k)) d out p i) (h : p < count c) where
  pub cut-begins : RowAt c i
  cut-begins = at_row q.to b.row h

  pub cut_inside : Inside n i
  cut_inside = inner-inside q.inner cut-begins.inside

  pub cut_from_lem : place n i + at c 3 ≤ length a
  cut_from_lem = omega (arith, along-fits q.from cut_inside cut-begins.begins q.inner.c3, q.room)

  pub cut-row : {row : List Float} → row ≡ take (at c 3) (drop (place n i) a) → row ≡ table (at c 3) (λ k. read_at (block n a) (index c (p + k)))
  cut-row e =
      e ∙ (part-table nan a (place n i) (at c 3) cut_from_lem
      ∙ table_same _ _ (at c 3) (λ k l. ap (λ (x : ℕ). get_or a x nan)
      (sym (place-row n i k cut-begins.begins) ∙ ap (place n) (sym (index-row k b.row l)))))

-- a row that was joined
module _ (minus : Bool) (n r : List ℕ) (a d : List Float) (q : JoiningRows n r (length a) (length d)) {out : List Float} {p : ℕ} {i : List ℕ}
    (b : ByRow r (λ k. join_at minus (get_or d k nan) (block n a) (index r k)) d out p i) (h : p < count r) where
  pub join-begins : RowAt r i
  join-begins = at_row q.to b.row h

  old : (k : ℕ) → k < at r 3 → get_or (take (at r 3) (drop p out)) k nan ≡ get_or d (p + k) nan
  old k l = get_or-take (at r 3) (drop p out) k nan l ∙ (ap (λ (x : List Float). get_or x k nan) (filled-rest b.done) ∙ get_or-drop p d k nan)

  pub joined-row : {row : List Float} → row ≡ table (at r 3) (λ k. join_at minus (get_or (take (at r 3) (drop p out)) k nan) (block n a) (along_row i k))
      → row ≡ table (at r 3) (λ k. join_at minus (get_or d (p + k) nan) (block n a) (index r (p + k)))
  joined-row e = e ∙ table_same _ _ (at r 3) (λ k l. rw (old k l, index-row k b.row l))

-- one row: where the block reaches to it, and where not
module _ (minus : Bool) (n : List ℕ) (a old : List Float) (i : List ℕ) (z : at i 3 ≡ 0) where
  along_in : (k : ℕ) → Inside n i → k < at n 3 → inside n (along_row i k) ≡ true
  along_in k t h = is_inside_lem (record { i0 = t.i0; i1 = t.i1; i2 = t.i2; i3 = h })

  along-out : (k : ℕ) → at n 3 ≤ k → inside n (along_row i k) ≡ false
  along-out k h =
      decide (inside n (along_row i k)) (λ t. absurd (let u = (inside_is n (along_row i k) t).i3 in omega arith)) (λ t. t)

  along-never : (k : ℕ) → Sizes n → inside n i ≡ false → inside n (along_row i k) ≡ false
  along-never k g t =
      decide (inside n (along_row i k))
      (λ u.
      let v = inside_is n (along_row i k) u in
      let q = g.p3 in
      let w : inside n i ≡ true = is_inside_lem (record { i0 = v.i0; i1 = v.i1; i2 = v.i2; i3 = omega arith }) in
      u ∙ (sym w ∙ t))
      (λ u. u)

  abbrev part : List Float
  part = take (at n 3) (drop (place n i) a)

  line_place_lem : (k : ℕ) → Sizes n → Inside n i → count n ≤ length a → line_joined minus part old k ≡ join_at minus (get_or old k nan)
      (block n a) (along_row i k)
  unfolding join_at
  line_place_lem k g t m =
      let f = along-fits g t z (le_refl (at n 3)) in
      let l : length part ≡ at n 3 = simp (length-take, length-drop) (omega arith) in
      decide (ltb k (at n 3))
      (λ u.
      let h = ltb-true k (at n 3) u in
      let e : get_or part k nan ≡ read_at (block n a) (along_row i k) =
      get_or-take (at n 3) (drop (place n i) a) k nan h ∙ (get_or-drop (place n i) a k nan ∙ ap (λ (x : ℕ). get_or a x nan) (sym (place-row n i k z))) in
      rw (l, u, along_in k t h, e))
      (λ u. rw (l, u, along-out k (ltb-false k (at n 3) u)))

  -- where the block reaches to the row
  pub row-joined : {row : List Float} → Sizes n → Inside n i → count n ≤ length a → row ≡ table (length old) (line_joined minus part old)
      → row ≡ table (length old) (λ k. join_at minus (get_or old k nan) (block n a) (along_row i k))
  row-joined g t m e = e ∙ table_same _ _ (length old) (λ k l. line_place_lem k g t m)

  -- and where it does not
  pub row_kept : Sizes n → inside n i ≡ false → old ≡ table (length old) (λ k. join_at minus (get_or old k nan) (block n a) (along_row i k))
  unfolding join_at
  row_kept g t = sym (table-all nan old) ∙ table_same _ _ (length old) (λ k l. rw (along-never k g t))
