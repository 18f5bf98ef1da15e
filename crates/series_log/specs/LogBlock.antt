-- The sub-block of the variables from v on: log.
use Prim.Native.Nat.{ℕ, suc, ◌+◌, ◌-◌, ◌*◌, ◌≤◌, ◌<◌}
use mathlib.Core.List.{List, [], ◌∷◌, ◌++◌}
use Rattle.std.specs.Prelude.{true, not, ◌&&◌, ◌≡◌, refl, ltb, eqb, length, get_or, set}
use Rattle.std.proofs.Math.Bool.{false, cond}
use Rattle.std.proofs.Common.{true≢false, ◌∙◌, arith, add-one, le_refl, length-drop, take_at, length-take-le}
use Rattle.std.proofs.Math.Path.{sym, ap}
use Rattle.std.proofs.Math.Nat.{mul-one}
use Rattle.std.proofs.Math.ListN.{take, drop}
use Rattle.std.specs.Float.Ieee.{Float, mul, neg, binary64}
use Rattle.std.specs.Float.{nan}
use borrow.Author.Tests.{ltb-true, eqb-true, eqb-false, ne_eqb, eq-eqb}
use Rattle.lists.specs.Test.{decide, of-both}
use Rattle.lists.specs.Four.{at, four_same, each}
use Rattle.lists.specs.Grow.{grow}
use Rattle.lists.specs.Stack.{stack, stack-none}
use Rattle.lists.specs.Table.{table, table_same}
use Rattle.lists.specs.Walk.{walk}
use Rattle.lists.specs.Part.{one_set}
use Rattle.model.specs.declared.Family.TheVariants.{Quotient}
use Rattle.model.specs.Header.{span, count}
use Rattle.model.specs.Announced.{length_after}
use Rattle.model.specs.General.{alone, product_at}
use Rattle.model.specs.Places.{index}
use Rattle.model.specs.Refusals.{zero_f}
use Rattle.model.specs.Constructed.{whole_f}
use Rattle.model.specs.Add.{join_at}
use Rattle.model.specs.Poly.{block}
use Rattle.model.specs.Quotient.{recurred, quotient_of, quotient_shape}
use Rattle.model.specs.Series.{after, times_whole, over_whole, log_gathered, log_row, log_rows}
use Rattle.shape_words.specs.Lengths.{Lengths, lengths-pos}
use Rattle.shape_words.specs.Spans.{ones-of-span, span-ones}
use Rattle.shape_words.specs.InRow.{in_row}
use Rattle.shape_words.specs.Strides.{row_in, span_more, span_none, stride-at, first_in}
use Rattle.product_general.specs.Product.{alone-one}
use Rattle.series_gathering.specs.Reach.{Shaped}
use Rattle.series_gathering.specs.Gather.{row_at}
use Rattle.series_log_line.specs.Line.{first_turn, next_place, next-is, LineRoom}
use Rattle.series_log.specs.LogRow.{LogRoom, count_after_lem}
use Rattle.series_log.specs.LogRows.{log_step, left_of_rows}
use Rattle.series_gathering.specs.Kept.{row_under}

-- a variable that is long in the result is long in the operand
pub record Long (lx r : List ℕ) : Type 0 where
  pub ones : (w : ℕ) → w < 4 → at lx w ≡ 1 → at r w ≡ 1

pub record LogShaped (lx sx r sr : List ℕ) : Type 0 where
  pub shaped : Shaped lx sx r sr
  pub long : Long lx r

pub record RowsRoom (lx r : List ℕ) (v n mx mw mr : ℕ) : Type 0 where
  pub within : v ≤ 4
  pub operand : span lx (4 - v) v ≤ mx
  pub rows : span r (4 - v) v ≤ n
  pub less : span lx (4 - v) v ≤ n
  pub work : 8 * n ≤ mw
  pub row : span r (4 - v) v ≤ mr

pub rows_same : {lx r : List ℕ} {v n mx mw mr mw' mr' : ℕ} → RowsRoom lx r v n mx mw mr → mw' ≡ mw → mr' ≡ mr → RowsRoom lx r v n mx mw' mr'
rows_same p e f = rw (e, f) p

module _ {lx sx r sr : List ℕ} (g : Shaped lx sx r sr) {v n mx mw mr : ℕ} (p : RowsRoom lx r v n mx mw mr) (h : v < 4) where
  pub rows_next : RowsRoom lx r (v + 1) n mx mw mr
  rows_next =
      let a = row_under g.strided.left h (le_refl (span lx (4 - v) v)) in
      let b = row_under g.strided.result h (le_refl (span r (4 - v) v)) in
      record {
        within = omega arith;
        operand = omega (arith, a, p.operand);
        rows = omega (arith, b, p.rows);
        less = omega (arith, a, p.less);
        work = p.work;
        row = omega (arith, b, p.row);
      }

  pub log-width : at sr v ≤ mr
  log-width = rw (stride-at r g.strided.by_r h) (row_under g.strided.result h p.row)

  pub log-room : {k mw' mr' : ℕ} → 1 ≤ k → k < at r v → mw' ≡ mw → mr' ≡ at sr v → LogRoom lx r v k n mx mw' mr'
  log-room o l i j =
      record {
        some = h;
        first = o;
        turn = l;
        operand = p.operand;
        rows = p.rows;
        less = p.less;
        work = omega (arith, p.work);
        full = j ∙ stride-at r g.strided.by_r h;
      }

  pub line-room : alone r (4 - (v + 1)) v ≡ true → {mt : ℕ} → mt ≡ at r v → LineRoom (at lx v) mx mt
  line-room t e =
      let l = g.strided.left in
      record {
        some = lengths-pos l v h;
        room = first_in l h p.operand;
        places = omega (arith, lengths-pos g.strided.result v h);
        few = let q = g.strided.result in omega (arith, each-most q);
      }
    where
      each-most : Lengths r → at r v ≤ 64
      each-most q = each (λ w. at r w ≤ 64) q.m0 q.m1 q.m2 q.m3 v h

-- ---- the row is the definition's

-- the inner quotient has the row's own lengths
shape-after : (v : ℕ) (r c : List ℕ) → quotient_shape (after v r) (after v r) c ≡ after v r
unfolding quotient_shape
shape-after v r c =
    four_same (λ k. length_after Quotient k (at (after v r) k) 1 (at (after v r) k) (at c k)) (at (after v r))
    (λ k h. of-both (λ (x : ℕ). x ≡ at (after v r) k) (eqb (at c k) 1) refl refl)

quotient_is : (v : ℕ) (lx r : List ℕ) (a b : List Float) → (count (after v lx) ≡ 1 → ⊥)
    → (quotient_of (after v r) (block (after v r) a) (block (after v lx) b)).places ≡ recurred (block (after v r) a) (block (after v lx) b) (after v r)
unfolding quotient_of
quotient_is v lx r a b h = rw (ne_eqb (count (after v lx)) 1 h) (rw (shape-after v r (after v lx)))

module _ (lx r : List ℕ) {v : ℕ} (h : v < 4) (xs : List Float) (l : span lx (4 - v) v ≤ length xs) where
  abbrev rest : ℕ
  rest = 4 - (v + 1)

  -- the operand's row, as the definition counts it
  operand-count : (k : ℕ) → k < at lx v → length (row_at lx v k xs) ≡ in_row lx v
  operand-count k t = length-take-le (in_row lx v) (drop (k * in_row lx v) xs) (rw (length-drop (k * in_row lx v) xs) (omega (arith, row_in lx h t refl l)))

  gathered-is : (head : Float) (k : ℕ) (q : List Float) → left_of_rows lx r v k xs q ≡ log_gathered head lx r rest v xs k q
  unfolding left_of_rows log_gathered
  gathered-is head k q =
      let lo : ℕ = first_turn (at lx v) k in
      let given : ℕ → ℕ → Float =
      λ w i. neg (walk (λ j acc. product_at lx r r (index r i) rest w
      (take (span lx rest w) (drop ((k - j) * span lx rest w) xs))
      (times_whole j (take (span r rest w) (drop (j * span r rest w) q))) acc) (k - lo) lo zero_f) in
      let x : ℕ → List Float = λ w. table (span lx rest w) (λ i. mul binary64 (whole_f k) (get_or
      (take (span lx rest w) (drop (k * span lx rest w) xs)) i nan)) in
      let row_by : ℕ → List Float =
      λ w. table (span r rest w) (λ i. cond (ltb k (at lx v))
      (join_at false (given w i) (block (after v lx) (x w)) (index r i)) (given w i)) in
      table_same _ _ (in_row r v) (λ i p. decide (ltb k (at lx v))
      (λ t. rw t (ap (λ (m : ℕ). join_at false (given (v + 1) i)
      (block (after v lx) (table m (λ i. mul binary64 (whole_f k) (get_or (row_at lx v k xs) i nan)))) (index r i))
      (operand-count k (ltb-true k (at lx v) t))))
      (λ t. rw t))
      ∙ ap row_by (add-one v)

  pub step_is : (head : Float) → (in_row lx v ≡ 1 → ⊥) → log_step lx r v xs ≡ log_row head lx r rest v xs
  unfolding log_row
  step_is head n =
      let c = count_after_lem lx v h in
      let first : (w : ℕ) → List Float = λ w. take (span lx rest w) (drop (0 * span lx rest w) xs) in
      λ i k q. (ap (λ (a : List Float). over_whole k (recurred (block (after v r) a) (block (after v lx) (row_at lx v 0 xs)) (after v r)))
      (gathered-is head k q)
      ∙ (ap (over_whole k) (sym (quotient_is v lx r (log_gathered head lx r rest v xs k q) (row_at lx v 0 xs) (λ e. n (sym c ∙ e))))
      ∙ ap (λ (w : ℕ). over_whole k (quotient_of (after v r) (block (after v r) (log_gathered head lx r rest v xs k q))
      (block (after v lx) (first w))).places) (add-one v))) i

-- ---- the sub-block

left : {v : ℕ} → v < 4 → 4 - v ≡ suc (4 - (v + 1))
left h = omega arith

module _ (head : Float) (lx r : List ℕ) {v : ℕ} (xs : List Float) where
  pub log-none : (w : List Float) → v ≡ 4 → 0 < length w → take (span r (4 - v) v) (set w 0 head) ≡ log_rows head lx r (4 - v) v xs
  unfolding log_rows
  log-none w e h = ap (λ (i : ℕ). take i (set w 0 head)) (span_none r e) ∙ (one_set head w h ∙ sym (ap (λ (i : ℕ). log_rows head lx r (4 - i) i xs) e))

  -- one long variable
  pub log-alone : (w : List Float) {line : List Float} {m : ℕ} → v < 4 → alone r (4 - (v + 1)) v ≡ true
      → line ≡ grow (m - 1) (next_place (at lx v) xs) (head ∷ []) → m ≡ at r v → length line ≡ at r v
      → take (span r (4 - v) v) (line ++ drop (at r v) w) ≡ log_rows head lx r (4 - v) v xs
  unfolding log_rows
  log-alone w {line} {m} h t e c n =
      let s : span r (4 - v) v ≡ at r v = span_more r h ∙ (ap (λ (i : ℕ). at r v * i) (alone-one r v t) ∙ mul-one (at r v)) in
      ap (λ (i : ℕ). take i (line ++ drop (at r v) w)) s
      ∙ (take_at line (drop (at r v) w) (at r v) n
      ∙ (e ∙ (ap (λ (i : ℕ). grow (i - 1) (next_place (at lx v) xs) (head ∷ [])) c
      ∙ (ap (λ (f : List Float → Float). grow (at r v - 1) f (head ∷ [])) (next-is head lx r v xs)
      ∙ sym (ap (λ (i : ℕ). log_rows head lx r i v xs) (left h) ∙ rw t)))))

  -- row 0, then the others
  pub log_others : (w w' : List Float) → v < 4 → alone r (4 - (v + 1)) v ≡ false → span lx (4 - v) v ≤ length xs
      → ((at r v ≡ 1 → ⊥) → in_row lx v ≡ 1 → ⊥) → take (in_row r v) w ≡ log_rows head lx r (4 - (v + 1)) (v + 1) xs
      → take (span r (4 - v) v) w' ≡ stack (at r v - 1) (log_step lx r v xs) (take (in_row r v) w) → take (span r (4 - v) v) w' ≡ log_rows
      head lx r (4 - v) v xs
  unfolding log_rows
  log_others w w' h t l long e f =
      let n : ℕ = 4 - (v + 1) in
      let first : List Float = take (in_row r v) w in
      let step : stack (at r v - 1) (log_step lx r v xs) first ≡ stack (at r v - 1) (log_row head lx r n v xs) first = decide (eqb (at r v) 1)
      (λ o.
      let z : at r v - 1 ≡ 0 = omega (arith, eqb-true (at r v) 1 o) in
      rw z (stack-none (log_step lx r v xs) first ∙ sym (stack-none (log_row head lx r n v xs) first)))
      (λ o. ap (λ (g : ℕ → List Float → List Float). stack (at r v - 1) g first) (step_is lx r h xs l head (long (eqb-false (at r v) 1 o)))) in
      f
      ∙ (step
      ∙ (ap (stack (at r v - 1) (log_row head lx r n v xs)) (e ∙ ap (λ (i : ℕ). log_rows head lx r n i xs) (add-one v))
      ∙ sym (ap (λ (i : ℕ). log_rows head lx r i v xs) (left h) ∙ rw t)))

-- where more variables are long in the result, so they are in the operand
pub not-one : {lx sx r sr : List ℕ} {v : ℕ} → LogShaped lx sx r sr → v < 4 → alone r (4 - (v + 1)) v ≡ false → (at r v ≡ 1 → ⊥) → in_row lx v ≡ 1 → ⊥
unfolding alone
not-one {lx} {sx} {r} {sr} {v} g h t o e =
    let x = ones-of-span lx (4 - (v + 1)) (v + 1) (λ w p q. lengths-pos g.shaped.strided.left w (omega arith)) e in
    let s : in_row r v ≡ 1 = span-ones r (4 - (v + 1)) (v + 1) (λ w p q. g.long.ones w (omega arith) (x w p q)) in
    let u : span r (4 - (v + 1)) (suc v) ≡ 1 = ap (λ (w : ℕ). span r (4 - (v + 1)) w) (sym (add-one v)) ∙ s in
    let a : (not (eqb (at r v) 1) && eqb (span r (4 - (v + 1)) (suc v)) 1) ≡ true = rw (ne_eqb (at r v) 1 o, eq-eqb (span r (4 - (v + 1)) (suc v)) 1 u) in
    true≢false (sym a ∙ t)
