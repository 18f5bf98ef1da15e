-- Values of a file that lie some values apart; and the rows of a block in column order.
use Rattle.std.specs.Prelude.{ℕ, ◌+◌, ◌*◌, ◌≤◌, ◌<◌, List, cond, ◌≡◌, eqb, length, set, Float}
use Rattle.std.proofs.Common.{sym, ◌∙◌, subst, arith, mul-add, mul-one, mul_assoc, mul-zero, mul-le-mul, mul-le-mul_left, mul-le-mul_right, ne_eqb}
use Rattle.std.proofs.Math.Path.{ap}
use Rattle.lists.specs.Four.{at}
use Rattle.lists.specs.Table.{table, table_same, Filled, filled_none, filled_more}
use Rattle.lists.specs.Fill.{filled-all}
use Rattle.model.specs.Header.{count}
use Rattle.shape_words.specs.Lengths.{Lengths, Inside, RowAt, sizes-of, count-is, count_most}
use Rattle.blocks.specs.Rows.{at_row, along_row, index-row}
use Rattle.blocks.specs.ByRow.{ByRow}
use Rattle.npy_grammar.specs.Text as text
use Rattle.npy_grammar.specs.Text.{Width, Order, rows, columns}
use Rattle.npy_files.specs.Values.{bytes_of, value_at, column_place, file_place}
use Rattle.npy_columns.specs.Places.{column-lt, SamePlaces}

-- the width that so many bytes are
unfoldable pub width_of : ℕ → Width
width_of b = cond (eqb b 4) text.four text.eight

-- rows, and 2 for columns
unfoldable pub order_of : ℕ → Order
order_of o = cond (eqb o 2) columns rows

-- value number `from`, and n - 1 more, each `step` values behind the one before; d is where the data begin
abbrev pub line_of : Width → List ℕ → ℕ → ℕ → ℕ → ℕ → Float
line_of w t d from step k = value_at w t d (from + step * k)

-- they lie in a file of m bytes
pub record Along (w : Width) (d from step n m : ℕ) : Type 0 where
  pub starts : from ≤ 16777216
  pub steps : step ≤ 16777216
  pub few : n ≤ 64
  pub fits : (k : ℕ) → k < n → d + bytes_of w * (from + step * k) + bytes_of w ≤ m

-- after k of them
pub record Lined (w : Width) (t : List ℕ) (d from step : ℕ) (old out : List Float) (v k : ℕ) : Type 0 where
  pub most : k ≤ length old
  pub here : v ≡ from + step * k
  pub done : Filled k (line_of w t d from step) old out

pub lined-none : (w : Width) (t : List ℕ) (d from step : ℕ) (old : List Float) → Lined w t d from step old old from 0
lined-none w t d from step old = record { most = omega arith; here = rw (mul-zero step) (omega arith); done = filled_none }

module _ {w : Width} {t : List ℕ} {d from step : ℕ} {old out : List Float} {v k : ℕ} (l : Lined w t d from step old out v k) where
  pub lined-small : Along w d from step (length old) (length t) → k < length old → v + step ≤ 1124073472
  lined-small a h =
      let q : k ≤ 64 = omega (arith, h, a.few) in
      let m : step * k ≤ 16777216 * 64 = mul-le-mul a.steps q in omega (arith, l.here, m, a.starts, a.steps)

  pub lined-fits : Along w d from step (length old) (length t) → k < length old → d + bytes_of w * v + bytes_of w ≤ length t
  lined-fits a h = rw l.here (a.fits k h)

  pub lined-more : {x : Float} → x ≡ value_at w t d v → k < length old → Lined w t d from step old (set out k x) (v + step) (k + 1)
  lined-more {x} e h =
      record {
        most = omega arith;
        here = rw (mul-add step k 1, mul-one step) (omega (arith, l.here));
        done = filled_more l.done (e ∙ ap (value_at w t d) l.here) h;
      }

  pub lined_end : length old ≤ k → out ≡ table (length old) (line_of w t d from step)
  lined_end h = filled-all l.done l.most h

-- ---- rows of a block with the lengths c, in column order

-- how far apart neighbours of a row lie
abbrev pub last_of : List ℕ → ℕ
last_of c = at c 3

abbrev pub step_of : List ℕ → ℕ
step_of c = at c 0 * at c 1 * at c 2

along-step : (c i : List ℕ) (k : ℕ) → at i 3 ≡ 0 → column_place c (along_row i k) ≡ column_place c i + step_of c * k
unfolding column_place
along-step c i k z =
    let a : at c 2 * at i 3 ≡ 0 = rw z (mul-zero (at c 2)) in
    rw a (simp (mul-add, mul_assoc, mul-zero) (omega arith))

step-most : {c : List ℕ} → Lengths c → step_of c ≤ 16777216
step-most g =
    let m = mul-le-mul (mul-le-mul g.m0 g.m1) g.m2 in omega (arith, m)

-- the step is the number of rows
count-rows : (c : List ℕ) → count c ≡ step_of c * last_of c
count-rows c = count-is c ∙ simp mul_assoc

pub row_most : (c : List ℕ) (r : ℕ) → r < step_of c → r * last_of c + last_of c ≤ count c
row_most c r h =
    let x : (r + 1) * last_of c ≤ step_of c * last_of c = mul-le-mul_right (last_of c) (omega arith) in
    omega (arith, x, count-rows c)

pub row_more : {c : List ℕ} → Lengths c → (r : ℕ) → r < step_of c → r * last_of c < count c
row_more {c} g r h = let p = g.p3 in omega (arith, row_most c r h)

pub rows-none : (c : List ℕ) {f : ℕ → Float} {d out : List Float} {i : List ℕ} → ByRow c f d out 0 i → ByRow c f d out (0 * last_of c) i
rows-none c {f} {d} {out} {i} b = subst (λ (p : ℕ). ByRow c f d out p i) (omega arith) b

pub rows-next : (c : List ℕ) (r : ℕ) {f : ℕ → Float} {d out : List Float} {i : List ℕ} → ByRow c f d out (r * last_of c + last_of c) i
    → ByRow c f d out ((r + 1) * last_of c) i
rows-next c r {f} {d} {out} {i} b = subst (λ (p : ℕ). ByRow c f d out p i) (omega arith) b

pub rows-end : (c : List ℕ) (r : ℕ) → r ≡ step_of c → count c ≤ r * last_of c
rows-end c r e = omega (arith, ap (λ (x : ℕ). x * last_of c) e, count-rows c)

pub record ColumnsFit (w : Width) (d n m l : ℕ) : Type 0 where
  pub bytes : d + bytes_of w * n ≤ m
  pub full : l ≡ n

-- as the code has the numbers
pub along_as : {w : Width} {d a a' s s' n n' m : ℕ} → Along w d a s n m → a' ≡ a → s' ≡ s → n' ≡ n → Along w d a' s' n' m
along_as b e f g = rw (e, f, g) b

pub lined_as : (w : Width) (t : List ℕ) (d : ℕ) {a a' s s' n n' : ℕ} {row : List Float} → row ≡ table n' (line_of w t d a' s') → n' ≡ n → a' ≡ a → s' ≡ s
    → row ≡ table n (line_of w t d a s)
lined_as w t d {a} {a'} {s} {s'} {n} {n'} {row} r e f g = r ∙ rw (e, f, g)

pub fit-four : {b d n m l : ℕ} → ColumnsFit (width_of b) d n m l → b ≡ 4 → d + 4 * l ≤ m
unfolding width_of bytes_of
fit-four {b} {d} {n} {m} {l} f e =
    let k : d + bytes_of (width_of b) * n ≤ m = f.bytes in
    let j : bytes_of (width_of b) ≡ 4 = rw e in
    omega (arith, rw j at k, f.full)

pub fit-eight : {b d n m l : ℕ} → ColumnsFit (width_of b) d n m l → (b ≡ 4 → ⊥) → d + 8 * l ≤ m
unfolding width_of bytes_of
fit-eight {b} {d} {n} {m} {l} f e =
    let k : d + bytes_of (width_of b) * n ≤ m = f.bytes in
    let j : bytes_of (width_of b) ≡ 8 = rw (ne_eqb b 4 e) in
    omega (arith, rw j at k, f.full)

pub width-most : (w : Width) (v n : ℕ) → v < n → bytes_of w * v + bytes_of w ≤ bytes_of w * n
width-most w v n h =
    let l : v + 1 ≤ n = omega arith in
    let e : bytes_of w * (v + 1) ≡ bytes_of w * v + bytes_of w = mul-add (bytes_of w) v 1 ∙ ap (λ (x : ℕ). bytes_of w * v + x) (mul-one (bytes_of w)) in
    let m : bytes_of w * (v + 1) ≤ bytes_of w * n = mul-le-mul_left (bytes_of w) l in
    omega (arith, e, m)

abbrev pub columns_of : Width → List ℕ → ℕ → List ℕ → ℕ → Float
columns_of w t d c p = value_at w t d (file_place columns c p)

pub columns-same : (w : Width) (t : List ℕ) (d : ℕ) {n r : List ℕ} {out : List Float} → SamePlaces n r → out ≡ table (count r) (columns_of w t d r)
    → out ≡ table (count n) (columns_of w t d n)
columns-same w t d {n} {r} s e =
    e ∙ (ap (λ (m : ℕ). table m (columns_of w t d r)) s.many
    ∙ table_same (columns_of w t d r) (columns_of w t d n) (count n) (λ p l. ap (value_at w t d) (s.same p l)))

pub fit_same : {w : Width} {d m l : ℕ} {n r : List ℕ} → SamePlaces n r → ColumnsFit w d (count n) m l → ColumnsFit w d (count r) m l
fit_same {w} {d} {m} {l} s f = subst (λ (x : ℕ). ColumnsFit w d x m l) (sym s.many) f

module _ (w : Width) (t : List ℕ) (d : ℕ) (c : List ℕ) (g : Lengths c) (old : List Float) (f : ColumnsFit w d (count c) (length t) (length old))
    {out : List Float} {p : ℕ} {i : List ℕ} (b : ByRow c (columns_of w t d c) old out p i) (h : p < count c) where
  pub row-begins : RowAt c i
  row-begins = at_row (sizes-of g) b.row h

  pub row-along : Along w d (column_place c i) (step_of c) (at c 3) (length t)
  row-along =
      record {
        starts = omega (arith, column-lt row-begins.inside, count_most g);
        steps = step-most g;
        few = g.m3;
        fits = λ k l. fit k l;
      }
    where
      inside-at : (k : ℕ) → k < at c 3 → Inside c (along_row i k)
      inside-at k l = let r = row-begins.inside in record { i0 = r.i0; i1 = r.i1; i2 = r.i2; i3 = l }

      fit : (k : ℕ) → k < at c 3 → d + bytes_of w * (column_place c i + step_of c * k) + bytes_of w ≤ length t
      fit k l =
          rw (← along-step c i k row-begins.begins)
          (omega (arith, width-most w (column_place c (along_row i k)) (count c) (column-lt (inside-at k l)), f.bytes))

  pub row_is : {row : List Float} → row ≡ table (at c 3) (line_of w t d (column_place c i) (step_of c)) → row ≡ table (at c 3) (λ k. columns_of w t d c (p + k))
  unfolding file_place
  row_is e =
      e ∙ table_same _ _ (at c 3) (λ k l. ap (value_at w t d)
      (sym (along-step c i k row-begins.begins) ∙ ap (column_place c) (sym (index-row k b.row l))))

-- ---- either order

pub width_four : (b : ℕ) → b ≡ 4 → width_of b ≡ text.four
unfolding width_of
width_four b e = rw e

pub width-eight : (b : ℕ) → (b ≡ 4 → ⊥) → width_of b ≡ text.eight
unfolding width_of
width-eight b n = rw (ne_eqb b 4 n)

-- the values of a file that says so
abbrev pub values_of : Width → Order → List ℕ → ℕ → List ℕ → ℕ → Float
values_of w o t d n p = value_at w t d (file_place o n p)

pub in_columns_lem : (o : ℕ) (w : Width) (t : List ℕ) (d : ℕ) (n : List ℕ) {out : List Float} → o ≡ 2 → out ≡ table (count n) (columns_of w t d n)
    → out ≡ table (count n) (values_of w (order_of o) t d n)
unfolding order_of
in_columns_lem o w t d n e k = k ∙ rw e

pub in_rows : (o b : ℕ) (t : List ℕ) (d : ℕ) (n : List ℕ) {w : Width} {out : List Float} {m : ℕ} → (o ≡ 2 → ⊥) → width_of b ≡ w → m ≡ count n
    → out ≡ table m (value_at w t d) → out ≡ table (count n) (values_of (width_of b) (order_of o) t d n)
unfolding order_of file_place
in_rows o b t d n {w} {out} {m} z e f k = k ∙ rw (f, ne_eqb o 2 z, e)
