-- What a loop over the rows of a variable has done, and the sub-block that they make.
use Prim.Native.Nat.{ℕ, suc, ◌+◌, ◌-◌, ◌*◌, ◌≤◌, ◌<◌, min}
use Rattle.std.specs.Prelude.{false, ◌≡◌, refl, length, drop, set}
use mathlib.Core.List.{List, ◌++◌}
use Rattle.std.proofs.Math.Path.{sym, ap}
use Rattle.std.proofs.Common.{◌∙◌, add-one, le_refl, mul-le-mul_right, take_all, take-add}
use native.Mathlib.Omega.{arith}
use Rattle.std.proofs.Math.ListN.{take}
use Rattle.std.specs.Float.Ieee.{Float}
use borrow.Rule.Slice.PartMut.{put_mid}
use Rattle.lists.specs.Four.{at, each}
use Rattle.lists.specs.Table.{table, length-table}
use Rattle.lists.specs.Part.{part, Kept, kept_above, one_set}
use Rattle.lists.specs.Stack.{stack, stack-none, stack-more}
use Rattle.model.specs.Header.{span}
use Rattle.model.specs.Series.{over_whole, exp_row, exp_rows}
use Rattle.shape_words.specs.InRow.{in_row}
use Rattle.shape_words.specs.Strides.{row_in, span_more, span_none, span_pos, stride-at}
use Rattle.series_gathering.specs.Reach.{Shaped, Gathering}
use Rattle.series_exp.specs.Room.{RowRoom, Room}
use Rattle.series_scaling.specs.Weighed.{weighed_at}
use Rattle.series_exp.specs.NextRow.{weighed, next_row, rows_are}
use Rattle.series_gathering.specs.Gather.{gathered}
use Rattle.series_gathering.specs.Kept.{kept_put, row_under}

-- w has the rows below k at its front, s places each, and ws from n up to e
pub record Stacked (s : ℕ) (f : ℕ → List Float → List Float) (first : List Float) (n e : ℕ) (ws : List Float) (m k : ℕ) (w : List Float) : Type 0 where
  pub from : 1 ≤ k
  pub len : length w ≡ m
  pub rows : take (k * s) w ≡ stack (k - 1) f first
  pub beside : part n e w ≡ ws

-- row 0 alone
pub stacked-one : {s n e : ℕ} {f : ℕ → List Float → List Float} {ws w w' : List Float} → Kept n e ws w w' → Stacked s f (take s w') n e ws (length w') 1 w'
stacked-one {s} {n} {e} {f} {ws} {w} {w'} k =
    let o : 1 * s ≡ s = omega arith in
    record { from = omega arith; len = refl; rows = ap (λ (m : ℕ). take m w') o ∙ sym (stack-none f (take s w')); beside = k.holds }

pub stacked-more : {s n e m k : ℕ} {f : ℕ → List Float → List Float} {first ws w w' xs : List Float}
    → Stacked s f first n e ws m k w → Kept (k * s) (k * s + s) xs w w' → xs ≡ f k (take (k * s) w)
    → k * s + s ≤ n → Stacked s f first n e ws m (k + 1) w'
stacked-more {s} {n} {e} {m} {k} {f} {first} {ws} {w} {w'} {xs} t a x h =
    let one = t.from in
    let p : (k + 1) * s ≡ k * s + s = omega arith in
    let q : k * s + s - k * s ≡ s = omega arith in
    let z : k - 1 + 1 ≡ k = omega arith in
    let y : k + 1 - 1 ≡ k - 1 + 1 = omega arith in
    let holds : take s (drop (k * s) w') ≡ f (k - 1 + 1) (stack (k - 1) f first) =
    ap (λ (i : ℕ). take i (drop (k * s) w')) (sym q) ∙ (a.holds ∙ (x ∙ (ap (f k) t.rows ∙ ap (λ (i : ℕ). f i (stack (k - 1) f first)) (sym z)))) in
    record {
      from = omega arith;
      len = a.below.len ∙ t.len;
      rows =
          ap (λ (i : ℕ). take i w') p
          ∙ (take-add (k * s) s w'
          ∙ (ap (λ (l : List Float). l ++ take s (drop (k * s) w')) (a.below.head ∙ t.rows)
          ∙ (ap (λ (l : List Float). stack (k - 1) f first ++ l) holds
          ∙ (sym (stack-more f first (k - 1)) ∙ ap (λ (i : ℕ). stack i f first) (sym y)))));
      beside = kept_above n e a h ∙ t.beside;
    }

-- the row k
pub row_more : (lx r : List ℕ) (v : ℕ) (xs : List Float) {n e m k : ℕ} {first w w' : List Float}
    → Stacked (in_row r v) (next_row lx r v xs) first n e (weighed lx v xs) m k w
    → Kept (k * in_row r v) (k * in_row r v + in_row r v)
    (over_whole k (gathered false lx r v k 1 (min (k + 1) (at lx v)) (part n e w) (take (k * in_row r v) w))) w w'
    → k * in_row r v + in_row r v ≤ n
    → Stacked (in_row r v) (next_row lx r v xs) first n e (weighed lx v xs) m (k + 1) w'
row_more lx r v xs {k = k} {w = w} t a h =
    stacked-more t a
    (ap (λ (l : List Float). over_whole k (gathered false lx r v k 1 (min (k + 1) (at lx v)) l (take (k * in_row r v) w)))
    t.beside) h

-- all rows
pub stacked-all : (r : List ℕ) {v : ℕ} {f : ℕ → List Float → List Float} {first ws w : List Float} {n e m k : ℕ} → v < 4
    → Stacked (in_row r v) f first n e ws m k w → k ≡ at r v
    → take (span r (4 - v) v) w ≡ stack (at r v - 1) f first
stacked-all r {v} {f} {first} {w = w} h t e =
    ap (λ (i : ℕ). take i w) (span_more r h) ∙ (ap (λ (i : ℕ). take (i * in_row r v) w) (sym e) ∙ (t.rows ∙ ap (λ (i : ℕ). stack (i - 1) f first) e))

-- the row as it was made
pub row_kept : {lx sx r sr : List ℕ} → Shaped lx sx r sr → {v k n e mr : ℕ} (w : List Float)
    → RowRoom lx r v k n e (length w) mr → {one two three : List Float} {z q : ℕ}
    → one ≡ gathered false lx r v k 1 (min (k + 1) (at lx v)) (part n e w) (part 0 (k * at sr v) w)
    → two ≡ over_whole k one → three ≡ take z two → z ≡ at sr v → q ≡ at sr v
    → Kept (k * in_row r v) (k * in_row r v + in_row r v)
    (over_whole k (gathered false lx r v k 1 (min (k + 1) (at lx v)) (part n e w) (take (k * in_row r v) w))) w
    (put_mid (k * at sr v) q w three)
unfolding gathered
row_kept {lx} {sx} {r} {sr} g {v} {k} {n} {e} w p {one} {two} {three} {z} {q} x y t ez eq =
    let s = stride-at r g.strided.by_r p.some in
    let o : k * at sr v - 0 ≡ k * in_row r v = rw s (omega arith) in
    let row : two ≡ over_whole k (gathered false lx r v k 1 (min (k + 1) (at lx v)) (part n e w) (take (k * in_row r v) w)) =
    y ∙ ap (over_whole k) (x ∙ ap (λ (i : ℕ). gathered false lx r v k 1 (min (k + 1) (at lx v)) (part n e w) (take i w)) o) in
    let l : length two ≡ in_row r v = ap length row ∙ (length-table _ _ ∙ length-table _ _) in
    let c : three ≡ two = t ∙ take_all z two (omega arith) in
    let d : k * in_row r v + in_row r v - k * in_row r v ≡ in_row r v = omega arith in
    let f : k * in_row r v + in_row r v ≤ length w = let a = p.ends in let b = p.room in omega (arith, row_in r p.some p.turn refl p.rows) in
    rw (← row, s) (rw (← c) (kept_put (k * in_row r v) (k * in_row r v + in_row r v) w (ap length c ∙ (l ∙ sym d)) (omega arith) f (eq ∙ (s ∙ sym d))))

-- ---- what the calls ask

-- the buffers after a call
pub room-same : {lx r : List ℕ} {v n mx mw mr mw' mr' : ℕ} → Room lx r v n mx mw mr → mw' ≡ mw → mr' ≡ mr → Room lx r v n mx mw' mr'
room-same p e f = rw (e, f) p

module _ {lx sx r sr : List ℕ} (g : Shaped lx sx r sr) {v n mx mw mr : ℕ} (p : Room lx r v n mx mw mr) (h : v < 4) where
  pub room_next : Room lx r (v + 1) n mx mw mr
  room_next =
      let a = row_under g.strided.left h (le_refl (span lx (4 - v) v)) in
      let b = row_under g.strided.result h (le_refl (span r (4 - v) v)) in
      record {
        within = omega arith;
        operand = omega (arith, a, p.operand);
        rows = omega (arith, b, p.rows);
        room = omega (arith, a, p.room);
        row = omega (arith, b, p.row);
      }

  -- the operand's rows
  pub rows_end : n + at lx v * at sx v ≡ n + span lx (4 - v) v
  rows_end = ap (λ (i : ℕ). n + i) (ap (λ (s : ℕ). at lx v * s) (stride-at lx g.strided.by_x h) ∙ sym (span_more lx h))

  pub rows_fit : n + at lx v * at sx v ≤ mw
  rows_fit = omega (arith, rows_end, p.room)

  pub operand-fits : at lx v * at sx v ≤ mx
  operand-fits = omega (arith, rows_end, p.operand)

  pub some-width : 0 < at sx v
  some-width = rw (stride-at lx g.strided.by_x h) (span_pos g.strided.left (omega arith))

  pub few-rows : at lx v * at sx v ≤ 64 * at sx v
  few-rows = let l = g.strided.left in mul-le-mul_right (at sx v) (each (λ v. at lx v ≤ 64) l.m0 l.m1 l.m2 l.m3 v h)

  -- the operand's rows as they were weighed
  pub weigh-kept : (w xs : List Float) → length w ≡ mw → {ws : List Float} {z q : ℕ}
      → ws ≡ table z (weighed_at (at sx v) xs) → z ≡ at lx v * at sx v → q ≡ at lx v * at sx v
      → Kept n (n + at lx v * at sx v) (weighed lx v xs) w (put_mid n q w ws)
  weigh-kept w xs l {ws} {z} {q} e ez eq =
      let m : at lx v * at sx v ≡ span lx (4 - v) v = ap (λ (s : ℕ). at lx v * s) (stride-at lx g.strided.by_x h) ∙ sym (span_more lx h) in
      let d : n + at lx v * at sx v - n ≡ at lx v * at sx v = omega arith in
      let c : ws ≡ weighed lx v xs =
      e ∙ (ap (λ (i : ℕ). table i (weighed_at (at sx v) xs)) (ez ∙ m)
      ∙ ap (λ (s : ℕ). table (span lx (4 - v) v) (weighed_at s xs)) (stride-at lx g.strided.by_x h)) in
      rw (← c) (kept_put n (n + at lx v * at sx v) w (ap length e ∙ (length-table _ z ∙ (ez ∙ sym d))) (omega arith) (omega (arith, rows_fit)) (eq ∙ sym d))

  pub first_under : in_row r v ≤ n
  first_under = row_under g.strided.result h p.rows

  pub width_in : at sr v ≤ mr
  width_in = rw (stride-at r g.strided.by_r h) (row_under g.strided.result h p.row)

  pub row_room : {k e mw' mr' : ℕ} → k < at r v → e ≡ n + span lx (4 - v) v → mw' ≡ mw → mr' ≡ at sr v → RowRoom lx r v k n e mw' mr'
  row_room l f i j = record {
    some = h;
    turn = l;
    rows = p.rows;
    ends = f;
    room = omega (arith, p.room);
    full = j ∙ stride-at r g.strided.by_r h;
  }

module _ {lx r : List ℕ} {v k n e mw mr : ℕ} (p : RowRoom lx r v k n e mw mr) where
  -- the row lies among the finished ones
  pub row_fits : k * in_row r v + in_row r v ≤ n
  row_fits = row_in r p.some p.turn refl p.rows

  pub row_gathers : {mx md mr' : ℕ} → mx ≡ e - n → md ≡ k * in_row r v → mr' ≡ mr → Gathering lx r v k mx md mr'
  row_gathers x d m = record { some = p.some; turn = p.turn; room = let f = p.ends in omega arith; before = d; full = m ∙ p.full }

-- ---- the sub-block

module _ (head : Float) (lx r : List ℕ) {v : ℕ} (xs : List Float) where
  -- no variable is left
  pub block_none : (w : List Float) → v ≡ 4 → 0 < length w → take (span r (4 - v) v) (set w 0 head) ≡ exp_rows head lx r (4 - v) v xs
  unfolding exp_rows
  block_none w e h =
      ap (λ (i : ℕ). take i (set w 0 head)) (span_none r e) ∙ (one_set head w h ∙ sym (ap (λ (i : ℕ). exp_rows head lx r (4 - i) i xs) e))

  -- row 0, then the others
  pub block_more : (w w' : List Float) → v < 4 → span lx (4 - v) v ≤ length xs → take (in_row r v) w ≡ exp_rows head lx r (4 - (v + 1)) (v + 1) xs
      → take (span r (4 - v) v) w' ≡ stack (at r v - 1) (next_row lx r v xs) (take (in_row r v) w) → take (span r (4 - v) v) w' ≡ exp_rows
      head lx r (4 - v) v xs
  unfolding exp_rows
  block_more w w' h l e f =
      let n : ℕ = 4 - (v + 1) in
      let c : 4 - v ≡ suc n = omega arith in
      f
      ∙ (ap (λ (g : ℕ → List Float → List Float). stack (at r v - 1) g (take (in_row r v) w)) (rows_are head lx r h xs l)
      ∙ (ap (stack (at r v - 1) (exp_row head lx r n v xs)) (e ∙ ap (λ (i : ℕ). exp_rows head lx r n i xs) (add-one v))
      ∙ sym (ap (λ (i : ℕ). exp_rows head lx r i v xs) c)))
