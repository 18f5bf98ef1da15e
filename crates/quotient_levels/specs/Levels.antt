-- The rows of a level, one after the other.
use Rattle.std.specs.Prelude.{ℕ, ◌+◌, ◌-◌, ◌*◌, ◌≤◌, ◌<◌, List, [], ◌≡◌, refl, length, Float}
use Rattle.std.proofs.Common.{sym, ap, ◌∙◌, le_refl, mul-one}
use native.Mathlib.Omega.{arith}
use Rattle.lists.specs.Four.{at, each}
use Rattle.lists.specs.Table.{table, length-table}
use Rattle.lists.specs.Part.{part}
use Rattle.lists.specs.Grow.{grow}
use Rattle.model.specs.Header.{span, count}
use Rattle.shape_words.specs.InRow.{in_row}
use Rattle.shape_words.specs.Strides.{span_more, span_pos, stride-at, row_in}
use Rattle.quotient_levels.specs.Grows.{length-grown}
use Rattle.quotient_lessening.specs.Laid.{Laid, laid_none, laid_append, laid-above, laid-part, laid-under, laid-over}
use Rattle.quotient_levels.specs.Level.{left_at, level_at, level_of, level-more}
use Rattle.quotient_levels.specs.Room.{Dividing, Room, RowRoom, Line}
use Rattle.quotient_levels.specs.Gather.{row-less, span_in}

-- what the loop over the rows has laid after k turns; w the work as it came
abbrev pub rows_laid : List ℕ → List ℕ → ℕ → ℕ → ℕ → ℕ → ℕ → List Float → ℕ → List Float
rows_laid ly r v p e b f w k = grow (k * in_row r v) (level_at ly r (part b f w) v (part p e w)) []

-- a block more for each variable left
blocks-left : (n : ℕ) {v : ℕ} → v < 4 → (5 - v) * n ≡ n + (5 - (v + 1)) * n
blocks-left n {v} h = each (λ v. (5 - v) * n ≡ n + (5 - (v + 1)) * n) (omega arith) (omega arith) (omega arith) (omega arith) v h

some_left : (n : ℕ) {v : ℕ} → v < 4 → n ≤ (5 - (v + 1)) * n
some_left n {v} h = each (λ v. n ≤ (5 - (v + 1)) * n) (omega arith) (omega arith) (omega arith) (omega arith) v h

-- a variable whose rows have more than one place is not the last
not_last : (r : List ℕ) {v : ℕ} → v < 4 → 1 < in_row r v → v + 1 < 4
unfolding span
not_last r {v} h = each (λ v. 1 < in_row r v → v + 1 < 4) (λ l. omega arith) (λ l. omega arith) (λ l. omega arith) (λ l. absurd (omega arith)) v h

module _ {ly sy r sr : List ℕ} (g : Dividing ly sy r sr) {v p e q b f mw mr : ℕ} (t : Room ly r v p e q b f mw mr) where
  h : v < 4
  h = t.some

  pub level_stride : at sr v ≡ in_row r v
  level_stride = stride-at r g.strided.by_r h

  whole : in_row r v ≤ count r
  whole = omega (arith, row-less g.strided.result h, span_in g.strided.result v (omega arith))

  pub level-row : at sr v ≤ mr
  level-row = rw level_stride (omega (arith, whole, t.row))

  pub level-top : e + at sr v ≤ mw
  level-top =
      let z = t.ends in
      let m = t.room in
      rw level_stride (omega (arith, whole, blocks-left (count r) h, some_left (count r) h, span_in g.strided.result v (omega arith)))

  -- a row of one place
  pub level-line : at sr v ≡ 1 → Line ly r v p e q b f mw
  level-line e1 =
      let z : span r (4 - v) v ≡ at r v = span_more r h ∙ (rw (sym level_stride ∙ e1) (mul-one (at r v))) in
      let a = t.apart in
      let b = t.ends in
      record {
        single = record { right = g.strided.right; result = g.strided.result; inner = g.inner; some = h; one = sym level_stride ∙ e1 };
        divisor = t.divisor;
        before = t.before;
        apart = omega arith;
        ends = omega arith;
        room = omega (arith, level-top);
      }

  -- and one of several
  pub level-several : (at sr v ≡ 1 → ⊥) → 1 < at sr v
  level-several n = let o : 0 < at sr v = rw level_stride (span_pos {v = v + 1} g.strided.result (let s = h in omega arith)) in omega arith

  module _ {k : ℕ} (l : k < at r v) where
    pub level_in : k * at sr v + at sr v ≤ span r (4 - v) v
    level_in = rw level_stride (row_in r h l refl (le_refl _))

    pub level-gather : {n : ℕ} → n ≡ at sr v → RowRoom ly r v k p e q b f mw n
    level-gather en =
        record {
          some = h;
          turn = l;
          divisor = t.divisor;
          before = t.before;
          apart = t.apart;
          ends = t.ends;
          room = let x = level-top in omega (arith, x, level_stride);
          row = en ∙ level_stride;
        }

    pub level-next : {n : ℕ} → 1 < at sr v → n ≡ mr → Room ly r (v + 1) e (e + at sr v) (q + k * at sr v) b f mw n
    level-next m1 en =
        let a = t.apart in
        let z = t.ends in
        let d = t.divisor in
        let o = t.before in
        let m = t.room in
        record {
          some = not_last r h (rw level_stride at m1);
          divisor = t.divisor;
          before = omega arith;
          apart = omega (arith, level_in, level_stride);
          ends = ap (λ (x : ℕ). e + x) level_stride;
          room = omega (arith, blocks-left (count r) h, span_in g.strided.result v (omega arith));
          row = omega (arith, t.row);
        }

-- a turn of the loop
module _ {ly sy r sr : List ℕ} (g : Dividing ly sy r sr) {v p e q b f mr : ℕ} (w : List Float) (t : Room ly r v p e q b f (length w) mr) where
  pub rows_more : {k : ℕ} {w1 w2 w3 : List Float} → k < at r v → Laid q (rows_laid ly r v p e b f w k) e w w1
      → Laid e (table (in_row r v) (left_at ly r v k (part q (q + k * in_row r v) w1) (part b f w1) (part p e w1))) (length w1) w1 w2
      → Laid (q + k * at sr v) (level_of ly r (part b f w2) (v + 1) (part e (e + at sr v) w2)) (e + at sr v) w2 w3
      → Laid q (rows_laid ly r v p e b f w (k + 1)) e w w3
  rows_more {k} {w1} {w2} {w3} l a1 a2 a3 =
      let s : ℕ = in_row r v in
      let ys : List Float = part b f w in
      let c : List Float = part p e w in
      let before : List Float = rows_laid ly r v p e b f w k in
      let left : List Float = table s (left_at ly r v k (part q (q + k * s) w1) (part b f w1) (part p e w1)) in
      let es = level_stride g t in
      let ek : k * at sr v ≡ k * s = ap (λ (x : ℕ). k * x) es in
      let i = level_in g t l in
      let x1 = t.apart in
      let x2 = t.ends in
      let x3 = t.divisor in
      let x4 = t.before in
      let x5 = level-top g t in
      let n1 = a1.len in
      let n2 = a2.len in
      let nb : length before ≡ k * s = length-grown _ (k * s) in
      let nl : length left ≡ s = length-table _ s in
      let e1 : part q (q + k * s) w1 ≡ before = laid-part a1 (q + k * s) (omega arith) (omega arith) in
      let e2 : part b f w1 ≡ ys = laid-under a1 b f (omega arith) (omega arith) (omega arith) in
      let e3 : part p e w1 ≡ c = laid-over a1 p e (omega arith) (omega arith) (omega arith) (omega arith) in
      let e4 : part b f w2 ≡ ys = laid-under a2 b f (omega arith) (omega arith) (omega arith) ∙ e2 in
      let e5 : part e (e + at sr v) w2 ≡ table s (left_at ly r v k before ys c) = laid-part a2 (e + at sr v) (omega arith) (omega arith) ∙ rw (e1, e2, e3) in
      let a4 : Laid (q + k * at sr v) (level_of ly r ys (v + 1) (table s (left_at ly r v k before ys c))) (e + at sr v) w2 w3 = rw (e4, e5) at a3 in
      rw (level-more ly r ys v t.some g.strided.result l c) (laid_append (laid-above a1 (omega arith) (le_refl e) a2) (omega arith) a4 (omega arith))

  -- no row yet
  pub rows_none : Laid q (rows_laid ly r v p e b f w 0) e w w
  unfolding grow
  rows_none = let z : 0 * in_row r v ≡ 0 = omega arith in rw z laid_none

  -- all of them
  pub rows_all : {k : ℕ} {w' : List Float} → k ≡ at r v → Laid q (rows_laid ly r v p e b f w k) e w w' → Laid q (level_of ly r (part b f w)
      v (part p e w)) e w w'
  unfolding level_of
  rows_all {k} ek a =
      let z : k * in_row r v ≡ span r (4 - v) v = rw ek (sym (span_more r t.some)) in
      rw z at a
