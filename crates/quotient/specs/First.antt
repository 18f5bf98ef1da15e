-- The first variable: the dividend is added to a row where it stores something.
use Prim.Native.Nat.{ℕ, ◌+◌, ◌-◌, ◌*◌, ◌≤◌, ◌<◌}
use mathlib.Core.List.{List, [], ◌∷◌, ◌++◌}
use Rattle.std.specs.Prelude.{Bool, ◌≡◌, refl, length, drop, Float}
use Rattle.std.proofs.Math.Bool.{false, cond}
use Rattle.std.proofs.Math.Path.{sym, ap}
use Rattle.std.proofs.Common.{◌∙◌, le_refl, one-mul, length-append, drop_at}
use native.Mathlib.Omega.{arith}
use Rattle.std.proofs.Math.ListN.{get_or}
use Rattle.std.proofs.Math.Seq.{get_or-drop}
use Rattle.std.specs.Float.Ieee.{nan, add, neg, binary64}
use borrow.Author.Tests.{lt-ltb}
use borrow.Author.Rules.{part_to_end}
use Rattle.lists.specs.Test.{decide}
use Rattle.lists.specs.Four.{at}
use Rattle.lists.specs.Table.{table, table_same, table_at, table-all}
use Rattle.lists.specs.Grow.{grow}
use Rattle.model.specs.Header.{span, count}
use Rattle.model.specs.Places.{strides, offset, place, index, inside}
use Rattle.model.specs.Poly.{Block, block}
use Rattle.model.specs.Add.{join_at}
use Rattle.model.specs.Quotient.{taken, lessened, quotient_at}
use Rattle.shape_words.specs.Lengths.{Lengths, inside_is}
use Rattle.blocks.specs.Rows.{Joining}
use Rattle.shape_words.specs.InRow.{in_row, split_at}
use Rattle.shape_words.specs.Strides.{row_in}
use Rattle.product_general.specs.Pairs.{from_on}
use Rattle.quotient_levels.specs.Grows.{grow-add, grow-same, length-grown}
use Rattle.quotient_levels.specs.Level.{taken_at, level_at, level_of, taken_row_lem, lessened-same}
use Rattle.quotient.specs.Room.{Adding}

-- what the row k still has to divide at its place i
abbrev pub first_at : List ℕ → List Float → List ℕ → List ℕ → ℕ → List Float → List Float → ℕ → Float
first_at lx xs ly r k done ys i = join_at false (neg (taken_at ly r 0 k done ys i)) (block lx xs) (index r (k * in_row r 0 + i))

-- the next place of the quotient, q those before it
abbrev pub quotient_next : Block → Block → List ℕ → List Float → Float
quotient_next x y r q = quotient_at x y r (index r (length q)) q

-- one row more
pub first_more : (lx : List ℕ) (xs : List Float) (ly r : List ℕ) (ys : List Float) (g : Lengths r) {k : ℕ} → k < at r 0
    → let before = grow (k * in_row r 0) (quotient_next (block lx xs) (block ly ys) r) [] in
    grow ((k + 1) * in_row r 0) (quotient_next (block lx xs) (block ly ys) r) [] ≡ before
    ++ level_of ly r ys 1 (table (in_row r 0) (first_at lx xs ly r k before ys))
unfolding level_of quotient_at
first_more lx xs ly r ys g {k} l =
    let s : ℕ = in_row r 0 in
    let f : List Float → Float = quotient_next (block lx xs) (block ly ys) r in
    let b : List Float = grow (k * s) f [] in
    let n : length b ≡ k * s = length-grown f (k * s) in
    let e : (k + 1) * s ≡ k * s + s = omega arith in
    let same : (q : List Float) → length q < s → f (b ++ q) ≡ level_at ly r ys 1 (table s (first_at lx xs ly r k b ys)) q =
    λ q m.
    let z : length (b ++ q) ≡ k * s + length q = length-append b q ∙ ap (λ (x : ℕ). x + length q) n in
    let j : List ℕ = index r (k * s + length q) in
    let i = split_at r g k (length q) 0 (omega arith) l m in
    let t : taken ly r ys j 3 0 (b ++ q) ≡ taken_at ly r 0 k b ys (length q) = taken_row_lem ly r ys 0 (omega arith) g l b n (length q) q m in
    let d : drop (at j 0 * span r 3 1) (b ++ q) ≡ q = ap (λ (x : ℕ). drop (x * s) (b ++ q)) i.here ∙ drop_at b q (k * s) n in
    ap (λ (x : ℕ). quotient_at (block lx xs) (block ly ys) r (index r x) (b ++ q)) z
    ∙ (ap (λ (x : List Float). lessened ly r ys j 3 1 x (join_at false (neg (taken ly r ys j 3 0 (b ++ q))) (block lx xs) j)) d
    ∙ (ap (λ (x : Float). lessened ly r ys j 3 1 q (join_at false (neg x) (block lx xs) j)) t
    ∙ (lessened-same ly r ys j (index r (length q)) 3 1 q _ (λ w p t. i.after w (omega arith) (omega arith))
    ∙ ap (λ (x : Float). lessened ly r ys (index r (length q)) 3 1 q x) (sym (table_at nan (first_at lx xs ly r k b ys) s (length q) m))))) in
    ap (λ (m : ℕ). grow m f []) e ∙ (grow-add f (k * s) s ∙ ap (λ (x : List Float). b ++ x) (grow-same _ _ s same))

-- ---- the dividend's row

-- the lengths of one row
abbrev pub row_lengths : List ℕ → List ℕ
row_lengths l = 1 ∷ at l 1 ∷ at l 2 ∷ at l 3 ∷ []

pub row_count : (l : List ℕ) → count (row_lengths l) ≡ in_row l 0
unfolding span
row_count l = one-mul _

pub row_lengths_lem : {l : List ℕ} → Lengths l → Lengths (row_lengths l)
row_lengths_lem g =
    record { p0 = omega arith; p1 = g.p1; p2 = g.p2; p3 = g.p3; m0 = omega arith; m1 = g.m1; m2 = g.m2; m3 = g.m3 }

module _ {lx r : List ℕ} {k mx mr : ℕ} (t : Adding lx r k mx mr) where
  -- the rows before it and itself lie in the dividend
  pub dividend_in : k < at lx 0 → {n : ℕ} → n ≡ count (row_lengths lx) → k * n + n ≤ mx
  dividend_in h {n} e =
      let i : n ≡ in_row lx 0 = e ∙ row_count lx in
      omega (arith, row_in lx (omega arith) h i (le_refl (span lx 4 0)), t.room)

  pub adding-row : k < at lx 0 → {n l m : ℕ} → n ≡ count (row_lengths lx) → l ≡ mx - k * n → m ≡ mr → Joining (row_lengths lx) (row_lengths r) l m
  adding-row h e el em =
      record {
        from = row_lengths_lem t.left;
        to = row_lengths_lem t.result;
        inner = record { c0 = le_refl 1; c1 = t.inner.c1; c2 = t.inner.c2; c3 = t.inner.c3 };
        room = omega (arith, dividend_in h e, e);
        full = em ∙ (t.row ∙ sym (row_count r));
      }

-- i an index in a row, j the one in the row k of the whole
module _ (lx i j : List ℕ) {k : ℕ} (z : at i 0 ≡ 0) (e : at j 0 ≡ k) (a : (w : ℕ) → 0 < w → w < 4 → at j w ≡ at i w) where
  row_inside : k < at lx 0 → inside (row_lengths lx) i ≡ inside lx j
  unfolding inside
  row_inside h = rw (z, e, a 1 (omega arith) (omega arith), a 2 (omega arith) (omega arith), a 3 (omega arith) (omega arith), lt-ltb k (at lx 0) h)

  row-place : k * in_row lx 0 + place (row_lengths lx) i ≡ place lx j
  unfolding offset strides span
  row-place = rw (z, e, a 1 (omega arith) (omega arith), a 2 (omega arith) (omega arith), a 3 (omega arith) (omega arith)) (omega arith)

-- the first length is not read
index-row : (r : List ℕ) (i : ℕ) → index (row_lengths r) i ≡ index r i
unfolding index
index-row r i = refl

module _ {lx r : List ℕ} {k mr : ℕ} (xs : List Float) (t : Adding lx r k (length xs) mr) where
  -- a place of the row that the dividend reaches
  row-joined : k < at lx 0 → (i : ℕ) (z : Float) → i < in_row r 0
      → join_at false z (block (row_lengths lx) (drop (k * in_row lx 0) xs)) (index (row_lengths r) i) ≡ join_at false z (block lx xs)
      (index r (k * in_row r 0 + i))
  unfolding join_at
  row-joined h i z l =
      let o = split_at r t.result k i 0 (omega arith) t.turn l in
      let j : List ℕ = index r (k * in_row r 0 + i) in
      let f : 0 * in_row r 0 + i ≡ i = omega arith in
      let m : at (index r i) 0 ≡ 0 = ap (λ (x : ℕ). at (index r x) 0) (sym f) ∙ (split_at r t.result 0 i 0 (omega arith) t.result.p0 l).here in
      let n : List ℕ = row_lengths lx in
      let p : get_or (drop (k * in_row lx 0) xs) (place n (index r i)) nan ≡ get_or xs (place lx j) nan =
      get_or-drop (k * in_row lx 0) xs (place n (index r i)) nan ∙ ap (λ (x : ℕ). get_or xs x nan) (row-place lx (index r i) j m o.here o.after) in
      ap (λ (x : List ℕ). join_at false z (block n (drop (k * in_row lx 0) xs)) x) (index-row r i)
      ∙ (ap (λ (x : Bool). cond x (add binary64 z (get_or (drop (k * in_row lx 0) xs) (place n (index r i)) nan)) z)
      (row_inside lx (index r i) j m o.here o.after h)
      ∙ ap (λ (x : Float). cond (inside lx j) (add binary64 z x) z) p)

  -- all of it
  pub row_added : k < at lx 0 → (old : List Float) {n : ℕ} {new : List Float} → n ≡ count (row_lengths lx)
      → new ≡ table (count (row_lengths r)) (λ i. join_at false (get_or old i nan) (block (row_lengths lx) (from_on xs (k * n))) (index (row_lengths r) i))
      → new ≡ table (in_row r 0) (λ i. join_at false (get_or old i nan) (block lx xs) (index r (k * in_row r 0 + i)))
  row_added h old {n} {new} e a =
      let i : n ≡ in_row lx 0 = e ∙ row_count lx in
      let p : from_on xs (k * n) ≡ drop (k * in_row lx 0) xs = part_to_end xs (k * n) ∙ ap (λ (m : ℕ). drop (k * m) xs) i in
      a ∙ (ap (λ (m : ℕ). table m (λ i. join_at false (get_or old i nan) (block (row_lengths lx) (from_on xs (k * n))) (index (row_lengths r) i))) (row_count r)
      ∙ table_same _ _ (in_row r 0)
      (λ i l. ap (λ (x : List Float). join_at false (get_or old i nan) (block (row_lengths lx) x)
      (index (row_lengths r) i)) p ∙ row-joined h i (get_or old i nan) l))

  -- none of it
  pub row_kept : at lx 0 ≤ k → (old : List Float) → length old ≡ mr
      → old ≡ table (in_row r 0) (λ i. join_at false (get_or old i nan) (block lx xs) (index r (k * in_row r 0 + i)))
  unfolding join_at
  row_kept h old e =
      sym (table-all nan old) ∙ (ap (λ (m : ℕ). table m (λ i. get_or old i nan)) (e ∙ t.row)
      ∙ table_same _ _ (in_row r 0) (λ i l.
      let o = split_at r t.result k i 0 (omega arith) t.turn l in
      let out : inside lx (index r (k * in_row r 0 + i)) ≡ false =
      decide (inside lx (index r (k * in_row r 0 + i)))
      (λ u. absurd (let w = (inside_is lx (index r (k * in_row r 0 + i)) u).i0 in omega (arith, o.here))) (λ u. u) in
      rw out))
