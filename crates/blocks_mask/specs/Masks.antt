-- Rows of a block under a cap on total degree (document 02, W10).
use Rattle.std.specs.Prelude.{ℕ, ◌+◌, ◌-◌, ◌≤◌, ◌<◌, min, List, ◌++◌, cond, ◌≡◌, refl, ltb, length, get_or, take, drop, Float}
use Rattle.std.proofs.Common.{sym, ap, ◌∙◌, arith, take-append-drop, get_or-take, get_or-drop, drop-drop, lt-ltb, le-ltb}
use Rattle.std.specs.Float.{nan}
use borrow.Rule.Slice.PartMut.{put_mid}
use Rattle.lists.specs.Four.{at}
use Rattle.lists.specs.Table.{table, table_same, table-take, Filled}
use Rattle.model.specs.Header.{count}
use Rattle.model.specs.Places.{index}
use Rattle.model_textbook.specs.Box.{degree}
use Rattle.model.specs.Refusals.{zero_f, zeros}
use Rattle.model_caps.specs.Cap.{capped_at}
use Rattle.shape_words.specs.Lengths.{Lengths, RowAt, sizes-of}
use Rattle.lists.specs.Fill.{filled-all, filled-rest, filled_row}
use Rattle.blocks.specs.Rows.{AtRow, at_row, index-row}
use Rattle.blocks.specs.ByRow.{ByRow}

pub record Masking (n : List ℕ) (m : ℕ) : Type 0 where
  pub to : Lengths n
  pub full : m ≡ count n

-- a place of a row whose numbers before the last add up to d
abbrev pub masked_at : ℕ → ℕ → List Float → ℕ → Float
masked_at d c old k = cond (ltb (d + k) c) (get_or old k nan) zero_f

-- the front of a row, below the cap, is as it was
pub masked-from : (d c k : ℕ) (old : List Float) → k ≤ c - d → k ≤ length old → Filled k (masked_at d c old) old old
masked-from d c k old h l = record {
  len = refl;
  is =
      sym (take-append-drop k old)
      ∙ ap (λ (x : List Float). x ++ drop k old)
      (sym (table_same (masked_at d c old) (λ i. get_or old i nan) k (λ i m. rw (lt-ltb (d + i) c (omega arith))) ∙ table-take nan old k l));
}

-- the rest of it is cleared
pub masked-rest : (d c k w : ℕ) (old : List Float) {row : List Float} → k ≡ min (c - d) (length old) → k + w ≡ length old → row ≡ zeros w
    → put_mid k w old row ≡ table (length old) (masked_at d c old)
masked-rest d c k w old e g r =
    rw (drop-drop w k old) (filled-all
    (filled_row w (masked-from d c k old (omega arith) (omega arith))
    (r ∙ table_same _ _ w (λ j l. sym (rw (le-ltb (d + (k + j)) c (omega arith))))) (omega arith)) (omega arith) (omega arith))

-- what the numbers of a place in a row add up to
pub row-degree : (n : List ℕ) {p : ℕ} {i : List ℕ} → AtRow n p i → (k : ℕ) → k < at n 3 → degree (index n (p + k)) ≡ at i 0 + at i 1 + at i 2 + k
unfolding degree
row-degree n r k l = rw (index-row k r l) (omega arith)

-- a row of the block
module _ (n : List ℕ) (c : ℕ) (d : List Float) (q : Masking n (length d)) {out : List Float} {p : ℕ} {i : List ℕ} (b : ByRow n (capped_at c n d) d out p i)
    (h : p < count n) where
  pub mask-begins : RowAt n i
  mask-begins = at_row (sizes-of q.to) b.row h

  pub mask-small : at i 0 + at i 1 + at i 2 ≤ 192
  mask-small = let r = mask-begins.inside in let l = q.to in omega (arith, r, l)

  old : (k : ℕ) → k < at n 3 → get_or (take (at n 3) (drop p out)) k nan ≡ get_or d (p + k) nan
  old k l = get_or-take (at n 3) (drop p out) k nan l ∙ (ap (λ (x : List Float). get_or x k nan) (filled-rest b.done) ∙ get_or-drop p d k nan)

  pub masked_row : {row : List Float} → row ≡ table (at n 3) (masked_at (at i 0 + at i 1 + at i 2) c (take (at n 3) (drop p out)))
      → row ≡ table (at n 3) (λ k. capped_at c n d (p + k))
  masked_row e = e ∙ table_same _ _ (at n 3) (λ k l. rw (old k l, row-degree n b.row k l))
