-- The loops over the rows.
use Rattle.std.specs.Prelude.{ℕ, ◌+◌, ◌-◌, ◌*◌, ◌≤◌, ◌<◌, true, ◌≡◌, length, take, drop, set, Float}
use mathlib.Core.List.{List, [], ◌∷◌, ◌++◌}
use Rattle.std.proofs.Common.{sym, ◌∙◌, arith, mul-one, drop-drop}
use Rattle.std.proofs.Math.Path.{ap}
use Rattle.std.proofs.Math.ListN.{get_or}
use Rattle.std.proofs.Math.Seq.{get_or-drop, get_or-take}
use Rattle.std.specs.Float.Ieee.{nan, add, mul}
use Rattle.std.specs.Float.{binary64}
use borrow.Author.Rules.{part_to_end}
use borrow.Rule.Slice.PartMut.{put_mid}
use Rattle.lists.specs.Four.{at}
use Rattle.lists.specs.Table.{table, table_same, table-all, table_at, length-table, Filled, filled_none}
use Rattle.lists.specs.Walk.{walk, walk_same, Walked, walked_none, walked_more, walked_end}
use Rattle.model.specs.Header.{span, count}
use Rattle.model.specs.Places.{index}
use Rattle.model.specs.Refusals.{zeros, zero_f}
use Rattle.model.specs.General.{lo, steps, line, alone, product_at, general}
use Rattle.shape_words.specs.Lengths.{Lengths}
use Rattle.lists.specs.Fill.{filled_row, filled-rest, filled-all}
use Rattle.lists.specs.Part.{one_place}
use Rattle.shape_words.specs.InRow.{in_row, split_at}
use Rattle.shape_words.specs.Strides.{span_none, span_more}
use Rattle.product_general.specs.Product.{alone-one, step_at, product-same, product_end, product-line, product-rows}
use Rattle.product_general.specs.Rows.{Several, place_of, rows_of, pairs_of}
use Rattle.product_lines.specs.Added.{line_added}

-- each place of a row carries a walk of its own, from a on, and has come to j
pub record Paired (s : ℕ) (f : ℕ → ℕ → Float → Float) (a j : ℕ) (old row : List Float) : Type 0 where
  pub from : a ≤ j
  pub len : length row ≡ s
  pub walks : (q : ℕ) → q < s → Walked (f q) a j (get_or old q nan) (get_or row q nan)

pub paired_none : {s : ℕ} {f : ℕ → ℕ → Float → Float} {a : ℕ} {old : List Float} → length old ≡ s → Paired s f a a old old
paired_none {f = f} {a = a} {old = old} e = record { from = omega arith; len = e; walks = λ q l. walked_none (f q) a (get_or old q nan) }

pub paired-more : {s : ℕ} {f : ℕ → ℕ → Float → Float} {a j : ℕ} {old row new : List Float} → Paired s f a j old row
    → new ≡ table s (λ q. f q j (get_or row q nan)) → Paired s f a (j + 1) old new
paired-more {s} {f} {a} {j} {old} {row} {new} p e =
    let h = p.from in
    record {
      from = omega arith;
      len = ap length e ∙ length-table _ s;
      walks = λ q l. walked_more (p.walks q l) (ap (λ (x : List Float). get_or x q nan) e ∙ table_at nan _ s q l);
    }

pub paired_end : {s : ℕ} {f : ℕ → ℕ → Float → Float} {a j : ℕ} {old row : List Float} (n : ℕ) → Paired s f a j old row
    → j ≡ a + n → row ≡ table s (λ q. walk (f q) n a (get_or old q nan))
paired_end {s} {f} {a} {j} {old} {row} n p e =
    sym (table-all nan row) ∙ (ap (λ (m : ℕ). table m (λ q. get_or row q nan)) p.len ∙ table_same _ _ s (λ q l. walked_end n (p.walks q l) e))

-- `&xs[p..]`
abbrev pub from_on : List Float → ℕ → List Float
from_on xs p = take (length xs - p) (drop p xs)

-- a turn of the loop over j
pub rows_step : (lx ly r : List ℕ) (v k tx ty j : ℕ) (xs ys row : List Float) {new : List Float}
    → new ≡ rows_of lx ly r (v + 1) (from_on xs (j * tx)) (from_on ys ((k - j) * ty)) row
    → new ≡ table (in_row r v) (λ q. step_at lx ly r (index r q) v k tx ty xs ys j (get_or row q nan))
unfolding rows_of
rows_step lx ly r v k tx ty j xs ys row e =
    e ∙ (ap (λ (l : List Float). table (in_row r v) (place_of lx ly r (v + 1) l (from_on ys ((k - j) * ty)) row)) (part_to_end xs (j * tx))
    ∙ ap (λ (l : List Float). table (in_row r v) (place_of lx ly r (v + 1) (drop (j * tx) xs) l row)) (part_to_end ys ((k - j) * ty)))

pub pairs_end : (lx ly r : List ℕ) (v k tx ty : ℕ) (xs ys : List Float) {a j : ℕ} {old row : List Float}
    → Paired (in_row r v) (λ q. step_at lx ly r (index r q) v k tx ty xs ys) a j old row → a ≡ lo (at ly v) k → j ≡ a + steps (at lx v) (at ly v) k
    → row ≡ pairs_of lx ly r v k tx ty xs ys old
unfolding pairs_of
pairs_end lx ly r v k tx ty xs ys {a} {j} {old} p e h =
    paired_end (steps (at lx v) (at ly v) k) p h
    ∙ ap (λ (b : ℕ). table (in_row r v) (λ q. walk (step_at lx ly r (index r q) v k tx ty xs ys) (steps (at lx v) (at ly v) k) b (get_or old q nan))) e

-- a place of the row k is one of the sub-block
module _ (lx ly r : List ℕ) (g : Lengths r) (v : ℕ) (m : Several r v) (xs ys : List Float) where
  walk-place : (k q : ℕ) (acc : Float) → k < at r v → q < in_row r v
      → walk (step_at lx ly r (index r q) v k (in_row lx v) (in_row ly v) xs ys) (steps (at lx v) (at ly v) k)
      (lo (at ly v) k) acc ≡ product_at lx ly r (index r (k * in_row r v + q)) (4 - v) v xs ys acc
  walk-place k q acc h l =
      let s = split_at r g k q v m.some h l in
      let i : List ℕ = index r (k * in_row r v + q) in
      let e : walk (step_at lx ly r i v (at i v) (in_row lx v) (in_row ly v) xs ys) (steps (at lx v) (at ly v) (at i v)) (lo (at ly v) (at i v)) acc
      ≡ walk (step_at lx ly r i v k (in_row lx v) (in_row ly v) xs ys) (steps (at lx v) (at ly v) k) (lo (at ly v) k) acc =
      ap (λ (n : ℕ). walk (step_at lx ly r i v n (in_row lx v) (in_row ly v) xs ys) (steps (at lx v) (at ly v) n) (lo (at ly v) n) acc) s.here in
      sym (product-rows lx ly r i v xs ys acc m.some m.more ∙ (e
      ∙ walk_same _ _ (steps (at lx v) (at ly v) k) (lo (at ly v) k) acc
      (λ j p t a. product-same lx ly r i (index r q) (4 - (v + 1)) (v + 1) _ _ a (λ w b d. s.after w (omega arith) (let z = m.some in omega arith)))))

  pub row_done : {k s tx ty : ℕ} {old out row : List Float} → Filled (k * s) (place_of lx ly r v xs ys old) old out
      → k < at r v → s ≡ in_row r v → tx ≡ in_row lx v → ty ≡ in_row ly v
      → row ≡ pairs_of lx ly r v k tx ty xs ys (take s (drop (k * s) out)) → row ≡ table s (λ q. place_of lx ly r v xs ys old (k * s + q))
  unfolding pairs_of
  row_done {k} {s} {tx} {ty} {old} {out} {row} f h es ex ey e =
      let o : (q : ℕ) → q < s → get_or (take s (drop (k * s) out)) q nan ≡ get_or old (k * s + q) nan =
      λ q l. get_or-take s (drop (k * s) out) q nan l ∙ (ap (λ (x : List Float). get_or x q nan) (filled-rest f) ∙ get_or-drop (k * s) old q nan) in
      let a : row ≡ table s (λ q. walk (step_at lx ly r (index r q) v k (in_row lx v) (in_row ly v) xs ys)
      (steps (at lx v) (at ly v) k) (lo (at ly v) k) (get_or (take s (drop (k * s) out)) q nan)) =
      e ∙ rw (ex, ey, ← es) in
      a ∙ table_same _ _ s
      (λ q l. rw (o q l) (walk-place k q (get_or old (k * s + q) nan) h (rw es at l)
      ∙ ap (λ (n : ℕ). product_at lx ly r (index r (k * n + q)) (4 - v) v xs ys (get_or old (k * s + q) nan))
      (sym es)))

  -- a turn of the loop over k, as the row that was lent comes back
  pub row_next : {k s n tx ty : ℕ} {old out row : List Float} → Filled (k * s) (place_of lx ly r v xs ys old) old out
      → k < at r v → s ≡ in_row r v → n ≡ s → tx ≡ in_row lx v → ty ≡ in_row ly v
      → row ≡ pairs_of lx ly r v k tx ty xs ys (take n (drop (k * s) out)) → k * s + s ≤ length old
      → Filled ((k + 1) * s) (place_of lx ly r v xs ys old) old (put_mid (k * s) n out row)
  row_next {k} {s} {n} {tx} {ty} {old} {out} {row} f h es en ex ey e b =
      let d : row ≡ pairs_of lx ly r v k tx ty xs ys (take s (drop (k * s) out)) =
      e ∙ ap (λ (m : ℕ). pairs_of lx ly r v k tx ty xs ys (take m (drop (k * s) out))) en in
      let p : put_mid (k * s) n out row ≡ take (k * s) out ++ (row ++ drop (k * s + s) out) =
      rw en (ap (λ (l : List Float). take (k * s) out ++ (row ++ l)) (drop-drop s (k * s) out)) in
      let t : k * s + s ≡ (k + 1) * s = omega arith in
      rw (p, ← t) (filled_row s f (row_done f h es ex ey d) b)

-- no row yet
pub row-none : (s : ℕ) {f : ℕ → Float} {old : List Float} → Filled (0 * s) f old old
row-none s = let e : 0 * s ≡ 0 = omega arith in rw e filled_none

-- all the rows
pub rows_end : (lx ly r : List ℕ) (v : ℕ) (xs ys : List Float) {k s : ℕ} {old out : List Float}
    → Filled (k * s) (place_of lx ly r v xs ys old) old out → v < 4 → s ≡ in_row r v → k ≡ at r v
    → length old ≡ span r (4 - v) v → out ≡ rows_of lx ly r v xs ys old
unfolding rows_of
rows_end lx ly r v xs ys {k} {s} {old} {out} f h es ek e =
    let n : k * s ≡ length old = rw (es, ek) (sym (span_more r h)) ∙ sym e in
    filled-all f (omega arith) (omega arith) ∙ ap (λ (m : ℕ). table m (place_of lx ly r v xs ys old)) e

pub rows-length : (lx ly r : List ℕ) (v : ℕ) (xs ys old : List Float) → length (rows_of lx ly r v xs ys old) ≡ span r (4 - v) v
unfolding rows_of
rows-length lx ly r v xs ys old = length-table _ (span r (4 - v) v)

-- no variable is left
pub rows_none : (lx ly r : List ℕ) {v : ℕ} (xs ys old : List Float) → v ≡ 4 → length old ≡ span r (4 - v) v
    → set old 0 (add binary64 (get_or old 0 nan) (mul binary64 (get_or xs 0 nan) (get_or ys 0 nan))) ≡ rows_of lx ly r v xs ys old
unfolding rows_of table
rows_none lx ly r {v} xs ys old h e =
    let n = span_none r h in
    one_place _ old (e ∙ n)
    ∙ (ap (λ (x : Float). x ∷ []) (sym (product_end lx ly r (index r 0) v xs ys (get_or old 0 nan) h))
    ∙ ap (λ (m : ℕ). table m (place_of lx ly r v xs ys old)) (sym n))

-- one long variable is left
pub rows-line : (lx ly r : List ℕ) (v : ℕ) (xs ys old : List Float) {new : List Float} → Lengths r → v < 4
    → alone r (4 - (v + 1)) v ≡ true → length old ≡ span r (4 - v) v
    → new ≡ table (length old) (line_added xs ys (at lx v) (at ly v) old) → new ≡ rows_of lx ly r v xs ys old
unfolding rows_of
rows-line lx ly r v xs ys old {new} g h t n e =
    let one : in_row r v ≡ 1 = alone-one r v t in
    let m : length old ≡ at r v = n ∙ (span_more r h ∙ rw one (mul-one (at r v))) in
    let at-k : (k : ℕ) → k < at r v → at (index r k) v ≡ k = λ k l.
    let p : k * in_row r v + 0 ≡ k = rw one (omega arith) in
    ap (λ (x : ℕ). at (index r x) v) (sym p) ∙ (split_at r g k 0 v h l (omega arith)).here in
    e ∙ (table_same _ _ (length old) (λ k l. sym
    (product-line lx ly r (index r k) v xs ys (get_or old k nan) h t
    ∙ ap (λ (x : ℕ). add binary64 (get_or old k nan) (line xs ys (at lx v) (at ly v) x)) (at-k k (omega arith))))
    ∙ ap (λ (j : ℕ). table j (place_of lx ly r v xs ys old)) n)

-- the whole product, from places that were cleared
pub general-is : (lx ly r : List ℕ) (xs ys : List Float) (n : ℕ) {old new : List Float} → old ≡ zeros n → n ≡ count r
    → new ≡ rows_of lx ly r 0 xs ys old → new ≡ general lx ly r xs ys
unfolding rows_of general
general-is lx ly r xs ys n {old} {new} z e h =
    h ∙ table_same _ _ (count r) (λ p l. ap (product_at lx ly r (index r p) 4 0 xs ys)
    (ap (λ (x : List Float). get_or x p nan) z ∙ table_at nan (λ k. zero_f) n p (omega arith)))
