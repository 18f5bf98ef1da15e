-- The loop over the rows of log, and the sub-block that they make.
use Rattle.std.specs.Prelude.{ℕ, suc, ◌+◌, ◌-◌, ◌*◌, ◌≤◌, ◌<◌, List, ◌++◌, true, false, cond, ◌≡◌, refl, ltb, length, get_or, take, drop, Float}
use Rattle.std.proofs.Common.{sym, ap, ◌∙◌, arith, mul-le-mul_right, suc-mul, length-take, length-drop, take-add, get_or-take, get_or-drop, ltb-true, ltb-false}
use Rattle.std.specs.Float.{nan}
use Rattle.std.specs.Float.Ieee.{neg}
use Rattle.lists.specs.Test.{decide}
use Rattle.lists.specs.Four.{at}
use Rattle.lists.specs.Table.{table, table_same}
use Rattle.lists.specs.Walk.{walk, walk_same}
use Rattle.lists.specs.Part.{part, Below, below-part}
use Rattle.lists.specs.Stack.{stack, stack-none, stack-more}
use Rattle.model.specs.Header.{span}
use Rattle.model.specs.Places.{index}
use Rattle.model.specs.Refusals.{zero_f}
use Rattle.model.specs.Poly.{block}
use Rattle.model.specs.Add.{join_at}
use Rattle.model.specs.General.{product_at}
use Rattle.model.specs.Quotient.{recurred}
use Rattle.model.specs.Series.{after, times_whole, over_whole}
use Rattle.lists.specs.Fill.{part-table}
use Rattle.shape_words.specs.InRow.{in_row}
use Rattle.shape_words.specs.Strides.{span_more}
use Rattle.series_gathering.specs.Gather.{row_at, pair_at}
use Rattle.series_log_line.specs.Line.{first_turn}
use Rattle.series_log.specs.LogRow.{multiplied_by, left_row}
use Rattle.series_log.specs.LogDone.{Rowed, divided_row}

-- a part of a part
part_in : (n m p s : ℕ) (w : List Float) → p + s ≤ m → n + m ≤ length w → take s (drop p (part n (n + m) w)) ≡ take s (drop (n + p) w)
part_in n m p s w h l =
    let c : n + m - n ≡ m = omega arith in
    let z : length (take m (drop n w)) ≡ m = simp (length-take, length-drop) (omega arith) in
    rw c
    (part-table nan (take m (drop n w)) p s (omega arith)
    ∙ (table_same _ _ s (λ i q.
    get_or-take m (drop n w) (p + i) nan (omega arith)
    ∙ (get_or-drop n w (p + i) nan ∙ ap (λ (j : ℕ). get_or w j nan) (let e : n + (p + i) ≡ n + p + i = omega arith in e)))
    ∙ sym (part-table nan w (n + p) s (omega arith))))

front_in : (m p s : ℕ) (w : List Float) → p + s ≤ m → m ≤ length w → take s (drop p (take m w)) ≡ take s (drop p w)
front_in m p s w h l =
    let z : length (take m w) ≡ m = simp length-take (omega arith) in
    part-table nan (take m w) p s (omega arith)
    ∙ (table_same _ _ s (λ i q. get_or-take m w (p + i) nan (omega arith)) ∙ sym (part-table nan w p s (omega arith)))

-- ---- the row from the finished rows themselves

-- what the turn j adds to the place i: x's row k - j by the finished row j times j
abbrev pub turn_at : List ℕ → List ℕ → ℕ → ℕ → List Float → List Float → ℕ → ℕ → Float → Float
turn_at lx r v k xs q i j acc = product_at lx r r (index r i) (4 - (v + 1)) (v + 1) (row_at lx v (k - j) xs) (times_whole j (row_at r v j q)) acc

abbrev pub less_at : List ℕ → List ℕ → ℕ → ℕ → List Float → List Float → ℕ → Float
less_at lx r v k xs q i = neg (walk (turn_at lx r v k xs q i) (k - first_turn (at lx v) k) (first_turn (at lx v) k) zero_f)

unfoldable pub left_of_rows : List ℕ → List ℕ → ℕ → ℕ → List Float → List Float → List Float
left_of_rows lx r v k xs q =
    table (in_row r v)
    (λ i. cond (ltb k (at lx v)) (join_at false (less_at lx r v k xs q i)
    (block (after v lx) (multiplied_by k (row_at lx v k xs))) (index r i)) (less_at lx r v k xs q i))

-- the row k of log from the rows before it
abbrev pub log_step : List ℕ → List ℕ → ℕ → List Float → ℕ → List Float → List Float
log_step lx r v xs k q = over_whole k (recurred (block (after v r) (left_of_rows lx r v k xs q)) (block (after v lx) (row_at lx v 0 xs)) (after v r))

left-weighed : (lx r : List ℕ) (v k : ℕ) (xs ys q : List Float)
    → ((j : ℕ) → 1 ≤ j → j < k → row_at r v j ys ≡ times_whole j (row_at r v j q))
    → left_row lx r v k xs ys ≡ left_of_rows lx r v k xs q
unfolding left_row left_of_rows
left-weighed lx r v k xs ys q h =
    let lo : ℕ = first_turn (at lx v) k in
    let same : (i : ℕ) → walk (pair_at true lx r v k xs ys i) (k - lo) lo zero_f ≡ walk (turn_at lx r v k xs q i) (k - lo) lo zero_f = λ i.
    walk_same _ _ (k - lo) lo zero_f (λ j a b acc.
    let e : k - (k - j) ≡ j = omega arith in
    ap (λ (m : ℕ). product_at lx r r (index r i) (4 - (v + 1)) (v + 1) (row_at lx v (k - j) xs) (row_at r v m ys) acc) e
    ∙ ap (λ (l : List Float). product_at lx r r (index r i) (4 - (v + 1)) (v + 1) (row_at lx v (k - j) xs) l acc) (h j (omega arith) (omega arith))) in
    table_same _ _ (in_row r v) (λ i l.
    ap (λ (z : Float). cond (ltb k (at lx v)) (join_at false (neg z) (block (after v lx) (multiplied_by k (row_at lx v k xs))) (index r i)) (neg z)) (same i))

-- ---- the loop

pub record LogStacked (s : ℕ) (f : ℕ → List Float → List Float) (first : List Float) (n m k : ℕ) (w : List Float) : Type 0 where
  pub from : 1 ≤ k
  pub len : length w ≡ m
  pub rows : take (k * s) w ≡ stack (k - 1) f first
  pub scaled : (j : ℕ) → 1 ≤ j → j < k → take s (drop (n + j * s) w) ≡ times_whole j (take s (drop (j * s) w))

pub log-one : {s n : ℕ} {f : ℕ → List Float → List Float} {w : List Float} → LogStacked s f (take s w) n (length w) 1 w
log-one {s} {n} {f} {w} =
    let o : 1 * s ≡ s = omega arith in
    record { from = omega arith; len = refl; rows = ap (λ (m : ℕ). take m w) o ∙ sym (stack-none f (take s w)); scaled = λ j a b. absurd (omega arith) }

row_of : (n j s : ℕ) (w : List Float) → part (n + j * s) (n + (j * s + s)) w ≡ take s (drop (n + j * s) w)
row_of n j s w = let c : n + (j * s + s) - (n + j * s) ≡ s = omega arith in rw c

row_at_lem : (j s : ℕ) (w : List Float) → part (j * s) (j * s + s) w ≡ take s (drop (j * s) w)
row_at_lem j s w = let c : j * s + s - j * s ≡ s = omega arith in rw c

under : {j k : ℕ} (s : ℕ) → j < k → j * s + s ≤ k * s
under {j} {k} s h = let m : suc j * s ≤ k * s = mul-le-mul_right s h in omega (arith, m, suc-mul j s)

pub log-more : (lx r : List ℕ) (v : ℕ) (xs : List Float) {n m k : ℕ} {first w w' : List Float} → LogStacked (in_row r v) (log_step lx r v xs) first n m k w
    → Rowed n (k * in_row r v) (k * in_row r v + in_row r v) k (divided_row lx r v k xs (part n (n + k * in_row r v) w)) w w'
    → k * in_row r v + in_row r v ≤ n → n + n ≤ m
    → LogStacked (in_row r v) (log_step lx r v xs) first n m (k + 1) w'
log-more lx r v xs {n} {m} {k} {first} {w} {w'} t a h big =
    let s : ℕ = in_row r v in
    let f : ℕ → List Float → List Float = log_step lx r v xs in
    let one = t.from in
    let lw = t.len in
    let p : (k + 1) * s ≡ k * s + s = omega arith in
    let z : k - 1 + 1 ≡ k = omega arith in
    let y : k + 1 - 1 ≡ k - 1 + 1 = omega arith in
    let b : Below (k * s) w w' = record { len = a.len; head = a.before } in
    let q : List Float = take (k * s) w in
    let rows_same : (j : ℕ) → j < k → take s (drop (j * s) w') ≡ take s (drop (j * s) w) = λ j l.
    sym (row_at_lem j s w') ∙ (below-part (j * s) (j * s + s) b (omega arith) (under s l) ∙ row_at_lem j s w) in
    let in-q : (j : ℕ) → j < k → row_at r v j q ≡ take s (drop (j * s) w) = λ j l.
    front_in (k * s) (j * s) s w (under s l) (omega arith) in
    let weigh : (j : ℕ) → 1 ≤ j → j < k → row_at r v j (part n (n + k * s) w) ≡ times_whole j (row_at r v j q) = λ j o l.
    part_in n (k * s) (j * s) s w (under s l) (omega arith) ∙ (t.scaled j o l ∙ ap (times_whole j) (sym (in-q j l))) in
    let made : divided_row lx r v k xs (part n (n + k * s) w) ≡ f k q =
    ap (λ (l : List Float). over_whole k (recurred (block (after v r) l) (block (after v lx) (row_at lx v 0 xs))
    (after v r))) (left-weighed lx r v k xs (part n (n + k * s) w) q weigh) in
    let new : take s (drop (k * s) w') ≡ f (k - 1 + 1) (stack (k - 1) f first) =
    sym (row_at_lem k s w') ∙ (a.row ∙ (made ∙ (ap (f k) t.rows ∙ ap (λ (i : ℕ). f i (stack (k - 1) f first)) (sym z)))) in
    record {
      from = omega arith;
      len = a.len ∙ lw;
      rows =
          ap (λ (i : ℕ). take i w') p
          ∙ (take-add (k * s) s w'
          ∙ (ap (λ (l : List Float). l ++ take s (drop (k * s) w')) (a.before ∙ t.rows)
          ∙ (ap (λ (l : List Float). stack (k - 1) f first ++ l) new
          ∙ (sym (stack-more f first (k - 1)) ∙ ap (λ (i : ℕ). stack i f first) (sym y)))));
      scaled = λ j o l. decide (ltb j k)
          (λ i.
          let c = ltb-true j k i in
          sym (row_of n j s w')
          ∙ (a.beside (n + j * s) (n + (j * s + s)) (omega arith) (omega arith) (omega (arith, under s c))
          ∙ (row_of n j s w ∙ (t.scaled j o c ∙ ap (times_whole j) (sym (rows_same j c))))))
          (λ i.
          let e : j ≡ k = omega (arith, ltb-false j k i) in
          rw e (sym (row_of n k s w') ∙ (a.scaled ∙ ap (times_whole k) (sym a.row ∙ row_at_lem k s w'))));
    }

pub log-all : (r : List ℕ) {v : ℕ} {f : ℕ → List Float → List Float} {first w : List Float} {n m k : ℕ} → v < 4
    → LogStacked (in_row r v) f first n m k w → k ≡ at r v
    → take (span r (4 - v) v) w ≡ stack (at r v - 1) f first
log-all r {v} {f} {first} {w} h t e =
    ap (λ (i : ℕ). take i w) (span_more r h) ∙ (ap (λ (i : ℕ). take (i * in_row r v) w) (sym e) ∙ (t.rows ∙ ap (λ (i : ℕ). stack (i - 1) f first) e))
