-- Rows summed: s the places of a row, m how many rows are summed.
use Rattle.std.specs.Prelude.{ℕ, ◌+◌, ◌*◌, ◌≤◌, ◌<◌, List, ◌≡◌, length, get_or, take, drop, Float}
use Rattle.std.proofs.Common.{sym, ap, ◌∙◌, arith, add-one, mul-le-mul_right, zero-add, get_or-take, get_or-drop}
use Rattle.std.specs.Float.{nan, binary64}
use Rattle.std.specs.Float.Ieee.{add}
use Rattle.lists.specs.Table.{table, length-table, table_at, table_same}
use Rattle.lists.specs.Walk.{walk, walk_more}
use Rattle.model.specs.Refusals.{zero_f, zeros}

-- the sum of the first m rows
abbrev pub sum_at : ℕ → ℕ → List Float → ℕ → Float
sum_at s m xs k = walk (λ j acc. add binary64 acc (get_or xs (j * s + k) nan)) m 0 zero_f

-- the row m plus that sum
abbrev pub front_at : ℕ → ℕ → List Float → ℕ → Float
front_at s m xs k = add binary64 (get_or xs (m * s + k) nan) (sum_at s m xs k)

-- j rows are summed
pub record Summed (s j : ℕ) (a to : List Float) : Type 0 where
  pub len : length to ≡ s
  pub is : to ≡ table s (sum_at s j a)

pub sum-none : (a : List Float) {s k : ℕ} {to : List Float} → to ≡ zeros k → k ≡ s → Summed s 0 a to
unfolding walk
sum-none a {s} {k} e f = record { len = ap length e ∙ (length-table (λ i. zero_f) k ∙ f); is = e ∙ ap zeros f }

pub sum_more : {s j at : ℕ} {a to : List Float} (z k : ℕ) {row o : List Float} → Summed s j a to → at ≡ j * s → row ≡ take z (drop at a) → z ≡ s → k ≡ s
    → o ≡ table k (λ i. add binary64 (get_or to i nan) (get_or row i nan)) → Summed s (j + 1) a o
sum_more {s} {j} {at} {a} {to} z k {row} g ea er ez ek eo =
    let f : ℕ → Float = λ i. add binary64 (get_or to i nan) (get_or row i nan) in
    let e = eo ∙ (ap (λ (x : ℕ). table x f) ek ∙ table_same f (sum_at s (j + 1) a) s (λ i h.
    let x : get_or to i nan ≡ sum_at s j a i = ap (λ (l : List Float). get_or l i nan) g.is ∙ table_at nan (sum_at s j a) s i h in
    let y : get_or row i nan ≡ get_or a (j * s + i) nan =
    ap (λ (l : List Float). get_or l i nan) er ∙ (get_or-take z (drop at a) i nan (omega (arith, ez))
    ∙ (get_or-drop at a i nan ∙ ap (λ (x : ℕ). get_or a (x + i) nan) ea)) in
    let w = walk_more (λ j acc. add binary64 acc (get_or a (j * s + i) nan)) j 0 zero_f in
    rw (x, y, add-one j) (rw (zero-add j) at (sym w)))) in
    record { len = ap length e ∙ length-table (sum_at s (j + 1) a) s; is = e }

-- the row j lies in the list
pub row_below : (s j m : ℕ) {at l : ℕ} → at ≡ j * s → j < m → m * s ≤ l → at + s ≤ l
row_below s j m e h k = let x : (j + 1) * s ≤ m * s = mul-le-mul_right s (omega arith) in omega (arith, x, e, k)

-- the row m with that sum
pub front-is : (s m : ℕ) (a : List Float) (z k : ℕ) {e : ℕ} {sum row o : List Float} → sum ≡ table s (sum_at s m a)
    → e ≡ m * s → row ≡ take z (drop e a) → z ≡ s → k ≡ s
    → o ≡ table k (λ i. add binary64 (get_or row i nan) (get_or sum i nan)) → o ≡ table s (front_at s m a)
front-is s m a z k {e} {sum} {row} es ee er ez ek eo =
    let f : ℕ → Float = λ i. add binary64 (get_or row i nan) (get_or sum i nan) in
    eo ∙ (ap (λ (x : ℕ). table x f) ek ∙ table_same f (front_at s m a) s (λ i h.
    let x : get_or sum i nan ≡ sum_at s m a i = ap (λ (l : List Float). get_or l i nan) es ∙ table_at nan (sum_at s m a) s i h in
    let y : get_or row i nan ≡ get_or a (m * s + i) nan =
    ap (λ (l : List Float). get_or l i nan) er ∙ (get_or-take z (drop e a) i nan (omega (arith, ez))
    ∙ (get_or-drop e a i nan ∙ ap (λ (x : ℕ). get_or a (x + i) nan) ee)) in
    rw (x, y)))
