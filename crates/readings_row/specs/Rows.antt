-- The row of one variable: where it is read, and what is copied at once: the places that differ in the last variable
-- alone.
use Rattle.std.specs.Prelude.{ℕ, zero, suc, ◌+◌, ◌-◌, ◌≤◌, ◌<◌, List, [], ◌∷◌, ◌≡◌, refl, length, get_or, set, take, drop, Float}
use Rattle.std.proofs.Common.{sym, ap, ◌∙◌, arith}
use Rattle.std.specs.Float.{nan}
use Rattle.lists.specs.Four.{at, one-changed}
use Rattle.lists.specs.Table.{table, table_same}
use Rattle.lists.specs.Fill.{part-table}
use Rattle.model.specs.Header.{count}
use Rattle.model.specs.Places.{place, index}
use Rattle.model.specs.Poly.{block, read_at}
use Rattle.shape_words.specs.Lengths.{Lengths, Inside, RowAt, sizes-of, inside-four, inside-at}
use Rattle.shape_words.specs.Places.{place-lt, index-inside, horner}
use Rattle.blocks.specs.Rows.{at_row, row_fits, along_row, index-row}
use Rattle.blocks.specs.ByRow.{ByRow}

-- what `pick` asks: n and c the lengths of the blocks, m and l those of their buffers, d the row of v
pub record Picking (n c : List ℕ) (v d m l : ℕ) : Type 0 where
  pub from : Lengths n
  pub to : Lengths c
  pub var : v < 4
  pub row : d < at n v
  pub alone : at c v ≡ 1
  pub inner : (k : ℕ) → k < 4 → at c k ≤ at n k
  pub room : count n ≤ m
  pub full : l ≡ count c

four-long : (c : List ℕ) (k : ℕ) → length (index c k) ≡ 4
unfolding index
four-long c k = refl

pub pick-inside : {n c : List ℕ} {v d m l : ℕ} → Picking n c v d m l → (k : ℕ) → k < count c → Inside n (set (index c k) v d)
pick-inside {n} {c} {v} {d} p k h =
    let t = index-inside c k p.to h in
    let w = p.var in
    inside-four
    (one-changed (λ j x. x < at n j) (index c k) v d (omega (arith, four-long c k)) p.row
    (λ j q _. omega (arith, inside-at t j q, p.inner j q)))

-- along a row the place of the index with d at v goes on by one; in the last variable itself a row has one place
place-along : (n : List ℕ) (x y z v d k : ℕ) → v < 4 → (v ≡ 3 → k ≡ 0)
    → place n (set (x ∷ y ∷ z ∷ k ∷ []) v d) ≡ place n (set (x ∷ y ∷ z ∷ 0 ∷ []) v d) + k
place-along n x y z zero d k h o = rw (horner n (d ∷ y ∷ z ∷ k ∷ []), horner n (d ∷ y ∷ z ∷ 0 ∷ [])) (omega arith)
place-along n x y z (suc zero) d k h o = rw (horner n (x ∷ d ∷ z ∷ k ∷ []), horner n (x ∷ d ∷ z ∷ 0 ∷ [])) (omega arith)
place-along n x y z (suc (suc zero)) d k h o = rw (horner n (x ∷ y ∷ d ∷ k ∷ []), horner n (x ∷ y ∷ d ∷ 0 ∷ [])) (omega arith)
place-along n x y z (suc (suc (suc zero))) d k h o = let e : k ≡ 0 = o refl in omega (arith, e)
place-along n x y z (suc (suc (suc (suc v)))) d k h o = absurd (omega arith)

-- the row of the loop that begins at the place p with the index i
module _ (n c : List ℕ) (v d : ℕ) (a to : List Float) (q : Picking n c v d (length a) (length to)) {out : List Float} {p : ℕ} {i : List ℕ}
    (b : ByRow c (λ k. read_at (block n a) (set (index c k) v d)) to out p i) (h : p < count c) where
  pub pick-begins : RowAt c i
  pick-begins = at_row (sizes-of q.to) b.row h

  first : index c p ≡ along_row i 0
  first =
      let e : p + 0 ≡ p = omega arith in
      let w = q.to.p3 in
      ap (index c) (sym e) ∙ index-row 0 b.row (omega arith)

  begin : i ≡ along_row i 0
  begin = b.row.is ∙ first

  pub pick_in : Inside n (set i v d)
  pick_in = rw b.row.is (pick-inside q p h)

  last-alone : (k : ℕ) → k < at c 3 → v ≡ 3 → k ≡ 0
  last-alone k l e = let o : at c 3 ≡ 1 = ap (at c) (sym e) ∙ q.alone in omega arith

  pick-place : (k : ℕ) → k < at c 3 → place n (set (index c (p + k)) v d) ≡ place n (set i v d) + k
  pick-place k l =
      ap (λ (x : List ℕ). place n (set x v d)) (index-row k b.row l)
      ∙ (place-along n (at i 0) (at i 1) (at i 2) v d k q.var (last-alone k l)
      ∙ ap (λ (x : List ℕ). place n (set x v d) + k) (sym begin))

  pub pick-from : place n (set i v d) + at c 3 ≤ length a
  pick-from =
      let w = q.to.p3 in
      let k : ℕ = at c 3 - 1 in
      let f = row_fits (sizes-of q.to) b.row.begins h in
      omega (arith, place-lt n (set (index c (p + k)) v d) (pick-inside q (p + k) (omega arith)), pick-place k (omega arith), q.room)

  pub pick-row : {row : List Float} → row ≡ take (at c 3) (drop (place n (set i v d)) a)
      → row ≡ table (at c 3) (λ k. read_at (block n a) (set (index c (p + k)) v d))
  pick-row e =
      e ∙ (part-table nan a (place n (set i v d)) (at c 3) pick-from
      ∙ table_same _ _ (at c 3) (λ k l. ap (λ (x : ℕ). get_or a x nan) (sym (pick-place k l))))
