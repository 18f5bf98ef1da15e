-- Rows under a linear factor: one row in three parts, and row after row.
use Rattle.std.specs.Prelude.{ℕ, ◌+◌, ◌-◌, ◌*◌, ◌/◌, ◌%◌, ◌≤◌, ◌<◌, List, ◌≡◌, ltb, length, get_or, take, drop, Float}
use Rattle.std.proofs.Common.{sym, ap, subst, ◌∙◌, arith, length-append, length-take, length-drop, get_or-take}
use Rattle.std.proofs.Common.{get_or-drop, ltb-true, ltb-false, lt-ltb, le-ltb}
use Rattle.std.proofs.Math.Arith.{digits_div, digits_mod}
use Rattle.std.specs.Float.{nan, binary64}
use Rattle.std.specs.Float.Ieee.{add, mul}
use borrow.Rule.Slice.PartMut.{put_mid}
use Rattle.lists.specs.Test.{decide}
use Rattle.lists.specs.Table.{table, table_same, Filled, filled_none}
use Rattle.model.specs.Refusals.{zero_f}
use Rattle.lists.specs.Fill.{filled-all}
use Rattle.product_linear.specs.Rows.{raised_row, lined_first, lined_middle, lined_last, lined_row, lined_flat, LinedRow, Rows}
use Rattle.product_linear.specs.Raised.{Along, rows_more}

-- ---- one row

-- a part of a buffer, and the buffer after a part of it was written
pub part_length : (i j : ℕ) (l : List Float) → i ≤ j → j ≤ length l → length (take (j - i) (drop i l)) ≡ j - i
part_length i j l p q = simp (length-take, length-drop) (omega arith)

pub mid-length : (p q : ℕ) (w xs : List Float) → p + q ≤ length w → length xs ≡ q → length (put_mid p q w xs) ≡ length w
mid-length p q w xs h e = simp (length-append, length-take, length-drop) (omega arith)

-- the part from i up to j was written
next-part : {i j : ℕ} (w q : ℕ) {f : ℕ → Float} {d out row : List Float} → i + w ≡ j → Filled i f d out
    → row ≡ table w (λ k. f (i + k)) → j ≤ length d → q ≡ w → Filled j f d (put_mid i q out row)
next-part {i} w q {f} {d} {out} {row} e p r h g = subst (λ (x : ℕ). Filled x f d (put_mid i q out row)) e (rows_more w q p r (omega arith) g)

module _ (c m : Float) (s : ℕ) (a : List Float) where
  abbrev row : ℕ → Float
  row = lined_row c m s (length a) a

  pub first-is : s ≤ length a → {o : List Float} {k : ℕ} → o ≡ table k (lined_first c a) → k ≡ s → o ≡ table s (λ j. row (0 + j))
  first-is l e g =
      e ∙ (ap (λ (x : ℕ). table x (lined_first c a)) g ∙ table_same (lined_first c a) (λ j. row (0 + j)) s (λ j h.
      let z : 0 + j ≡ j = omega arith in
      simp (z, lt-ltb j (length a) (omega arith), lt-ltb j s h)))

  pub middle-is : {b o : List Float} {z k : ℕ} → b ≡ take z (drop s a) → z ≡ length a - s
      → o ≡ table k (lined_middle m a c b) → k ≡ length a - s → o ≡ table (length a - s) (λ j. row (s + j))
  middle-is {b} {o} {z} eb ez e g =
      e ∙ (ap (λ (x : ℕ). table x (lined_middle m a c b)) g ∙ table_same (lined_middle m a c b) (λ j. row (s + j)) (length a - s) (λ j h.
      let back : s + j - s ≡ j = omega arith in
      let y : get_or b j nan ≡ get_or a (s + j) nan =
      ap (λ (l : List Float). get_or l j nan) eb
      ∙ (get_or-take z (drop s a) j nan (omega arith) ∙ get_or-drop s a j nan) in
      simp (lt-ltb (s + j) (length a) (omega arith), le-ltb (s + j) s (omega arith), back, y)))

  pub last-is : s ≤ length a → (n : ℕ) → n ≤ length a + s → {x o : List Float} {z k : ℕ}
      → x ≡ take z (drop (length a - s) a) → z ≡ s → o ≡ table k (lined_last m x) → k ≡ n - length a
      → o ≡ table (n - length a) (λ j. row (length a + j))
  last-is l n most {x} {o} {z} ex ez e g =
      e ∙ (ap (λ (y : ℕ). table y (lined_last m x)) g ∙ table_same (lined_last m x) (λ j. row (length a + j)) (n - length a) (λ j h.
      let back : length a + j - s ≡ length a - s + j = omega arith in
      let y : get_or x j nan ≡ get_or a (length a - s + j) nan =
      ap (λ (r : List Float). get_or r j nan) ex
      ∙ (get_or-take z (drop (length a - s) a) j nan (omega arith) ∙ get_or-drop (length a - s) a j nan) in
      simp (le-ltb (length a + j) (length a) (omega arith), le-ltb (length a + j) s (omega arith), back, y)))

  pub row-lined : (d : List Float) → LinedRow s (length a) (length d) → {q1 q2 q3 : ℕ} {o1 o2 o3 : List Float} → q1 ≡ s
      → q2 ≡ length a - s → q3 ≡ length d - length a
      → o1 ≡ table s (λ j. row (0 + j)) → o2 ≡ table (length a - s) (λ j. row (s + j)) → o3 ≡ table (length d - length a) (λ j. row (length a + j))
      → put_mid (length a) q3 (put_mid s q2 (put_mid 0 q1 d o1) o2) o3 ≡ table (length d) row
  row-lined d t {q1} {q2} {q3} e1 e2 e3 r1 r2 r3 =
      let small = t.small in
      let reach = t.reach in
      let f1 = next-part {i = 0} {j = s} s q1 (omega arith) (filled_none {f = row} {d = d}) r1 (omega arith) e1 in
      let f2 = next-part {i = s} {j = length a} (length a - s) q2 (omega arith) f1 r2 (omega arith) e2 in
      let f3 = next-part {i = length a} {j = length d} (length d - length a) q3 (omega arith) f2 r3 (omega arith) e3 in
      filled-all f3 (omega arith) (omega arith)

-- ---- row after row

-- a row under a linear factor, by what is read of it
pub lined-same : (c m : Float) (s width : ℕ) (x y : List Float) (j : ℕ)
    → (s ≤ j → get_or x (j - s) nan ≡ get_or y (j - s) nan) → (j < width → get_or x j nan ≡ get_or y j nan)
    → lined_row c m s width x j ≡ lined_row c m s width y j
lined-same c m s width x y j f g =
    let up : raised_row m s x j ≡ raised_row m s y j = decide (ltb j s) (λ e. rw e) (λ e. rw e (ap (λ (z : Float). mul binary64 z m) (f (ltb-false j s e)))) in
    decide (ltb j width)
    (λ e. rw e (ap (λ (z : Float). add binary64 (add binary64 zero_f z) (mul binary64 c (get_or x j nan))) up
    ∙ ap (λ (z : Float). add binary64 (add binary64 zero_f (raised_row m s y j)) (mul binary64 c z))
    (g (ltb-true j width e))))
    (λ e. rw e (ap (λ (z : Float). add binary64 zero_f z) up))

module _ {s width step ma mt : ℕ} (q : Rows s width step ma mt) {from at' : ℕ} (a : Along width step from at') where
  -- what was written to the row that the loop has come to
  pub lined_row-is : (c m : Float) (xs : List Float) → from + width ≤ length xs → {row o : List Float} {z k : ℕ}
      → row ≡ take z (drop from xs) → z ≡ width → o ≡ table k (lined_row c m s (length row) row) → k ≡ step
      → o ≡ table step (λ j. lined_flat c m s width step xs (at' + j))
  lined_row-is c m xs hf {row} {o} {z} er ez eo ek =
      let lr : length row ≡ width = ap length er ∙ simp (length-take, length-drop) (omega arith) in
      eo ∙ (ap (λ (x : ℕ). table x (lined_row c m s (length row) row)) ek
      ∙ table_same (lined_row c m s (length row) row) (λ j. lined_flat c m s width step xs (at' + j)) step (λ j g.
      let d : (at' + j) / step ≡ a.turns = ap (λ (x : ℕ). (x + j) / step) a.is_at ∙ digits_div a.turns g in
      let r : (at' + j) % step ≡ j = ap (λ (x : ℕ). (x + j) % step) a.is_at ∙ digits_mod a.turns g in
      let f : (at' + j) / step * width ≡ from = ap (λ (x : ℕ). x * width) d ∙ sym a.is_from in
      let seen : (i : ℕ) → i < z → get_or row i nan ≡ get_or (drop from xs) i nan =
      λ i h. ap (λ (l : List Float). get_or l i nan) er ∙ get_or-take z (drop from xs) i nan h in
      let back : lined_flat c m s width step xs (at' + j) ≡ lined_row c m s width (drop from xs) j = rw (r, f) in
      ap (λ (x : ℕ). lined_row c m s x row j) lr
      ∙ (lined-same c m s width row (drop from xs) j
      (λ h. seen (j - s) (omega (arith, h, q.most, ez, g)))
      (λ h. seen j (omega (arith, h, ez)))
      ∙ sym back)))
