-- The row k of log where more variables are long: what is gathered, negated, the operand's row added.
use Prim.Native.Nat.{ℕ, ◌+◌, ◌-◌, ◌*◌, ◌/◌, ◌≤◌, ◌<◌}
use mathlib.Core.List.{List}
use Rattle.std.proofs.Math.Bool.{true, false}
use Rattle.std.specs.Prelude.{cond, ◌≡◌, refl, ltb}
use Rattle.std.proofs.Common.{sym, ◌∙◌, le_refl, mul-one, one-mul, div-lt_iff_lt-mul, lt-ltb, le-ltb}
use Rattle.std.proofs.Math.Path.{ap}
use native.Mathlib.Omega.{arith}
use Rattle.std.proofs.Math.Nat.{div-eq_of_lt, zero-div, zero-mod}
use Rattle.std.proofs.Math.ListN.{length, get_or}
use Rattle.std.specs.Float.Ieee.{Float, nan, mul, neg}
use Rattle.std.specs.Float.{binary64}
use Rattle.lists.specs.Test.{of-each, of-both}
use Rattle.lists.specs.Four.{at, at-four, each}
use Rattle.lists.specs.Table.{table, table_same, table_at, length-table}
use Rattle.lists.specs.Walk.{walk}
use Rattle.lists.specs.Part.{part}
use Rattle.model.specs.Header.{span, count}
use Rattle.model.specs.Places.{index}
use Rattle.model.specs.Refusals.{zero_f}
use Rattle.model.specs.Constructed.{whole_f}
use Rattle.model.specs.Negate.{negated_at}
use Rattle.model.specs.Poly.{block}
use Rattle.model.specs.Add.{join_at}
use Rattle.model.specs.Series.{after}
use Rattle.shape_words.specs.Lengths.{Lengths, lengths-pos}
use Rattle.blocks.specs.Rows.{Inner, Joining}
use Rattle.shape_words.specs.InRow.{in_row}
use Rattle.shape_words.specs.Strides.{row_in, stride-at}
use Rattle.series_gathering.specs.Reach.{Reach, Shaped, Gathering}
use Rattle.series_gathering.specs.Gather.{row_at, pair_at, gathered}
use Rattle.series_log_line.specs.Line.{first_turn}
use Rattle.series_gathering.specs.Kept.{row_under}

-- k times each place
abbrev pub multiplied_by : ℕ → List Float → List Float
multiplied_by k a = table (length a) (λ i. mul binary64 (whole_f k) (get_or a i nan))

-- ys has the rows before the row k, each times its number
abbrev pub taken_at : List ℕ → List ℕ → ℕ → ℕ → List Float → List Float → ℕ → Float
taken_at lx r v k xs ys i = neg (walk (pair_at true lx r v k xs ys i) (k - first_turn (at lx v) k) (first_turn (at lx v) k) zero_f)

unfoldable pub left_row : List ℕ → List ℕ → ℕ → ℕ → List Float → List Float → List Float
left_row lx r v k xs ys =
    table (in_row r v)
    (λ i. cond (ltb k (at lx v)) (join_at false (taken_at lx r v k xs ys i)
    (block (after v lx) (multiplied_by k (row_at lx v k xs))) (index r i)) (taken_at lx r v k xs ys i))

-- the finished rows lie at the front of the work, those times their numbers from n on
pub record LogRoom (lx r : List ℕ) (v k n mx mw mr : ℕ) : Type 0 where
  pub some : v < 4
  pub first : 1 ≤ k
  pub turn : k < at r v
  pub operand : span lx (4 - v) v ≤ mx
  pub rows : span r (4 - v) v ≤ n
  pub less : span lx (4 - v) v ≤ n
  pub work : 8 * n ≤ mw
  pub full : mr ≡ in_row r v

-- ---- the turns

pub log-reach : {k m lo : ℕ} → 1 ≤ m → lo ≡ first_turn m k → Reach true k m lo k
log-reach p e = record { turns = omega arith; some = λ j a b. omega arith; most = λ j a b. omega arith; within = λ j a b. omega arith }

-- ---- the lengths after v

after-at : (v : ℕ) (l : List ℕ) (k : ℕ) → k < 4 → at (after v l) k ≡ cond (ltb v k) (at l k) 1
after-at v l = at-four (λ w. cond (ltb v w) (at l w) 1)

pub after-lengths : (v : ℕ) {l : List ℕ} → Lengths l → Lengths (after v l)
after-lengths v {l} g =
    let p : (k : ℕ) → 0 < at l k → 0 < cond (ltb v k) (at l k) 1 = λ k h. of-both (λ (x : ℕ). 0 < x) (ltb v k) h (omega arith) in
    let m : (k : ℕ) → at l k ≤ 64 → cond (ltb v k) (at l k) 1 ≤ 64 = λ k h. of-both (λ (x : ℕ). x ≤ 64) (ltb v k) h (omega arith) in
    record { p0 = p 0 g.p0; p1 = p 1 g.p1; p2 = p 2 g.p2; p3 = p 3 g.p3; m0 = m 0 g.m0; m1 = m 1 g.m1; m2 = m 2 g.m2; m3 = m 3 g.m3 }

pub after-inner : (v : ℕ) {n c : List ℕ} → Inner n c → Inner (after v n) (after v c)
after-inner v {n} {c} i =
    let p : (k : ℕ) → at c k ≤ at n k → cond (ltb v k) (at c k) 1 ≤ cond (ltb v k) (at n k) 1 = λ k h. of-each (λ (x y : ℕ). x ≤ y) (ltb v k) h (le_refl 1) in
    record { c0 = p 0 i.c0; c1 = p 1 i.c1; c2 = p 2 i.c2; c3 = p 3 i.c3 }

-- a place of the row has the same index among them
module _ (r : List ℕ) (g : Lengths r) where
  -- a number below a product
  two : {i b c : ℕ} → 0 < c → i < b * c → i / c < b
  two p h = (div-lt_iff_lt-mul p).1 h

  pub index-after : (v : ℕ) → v < 4 → (i : ℕ) → i < in_row r v → index r i ≡ index (after v r) i
  unfolding index span
  index-after = each (λ v. (i : ℕ) → i < in_row r v → index r i ≡ index (after v r) i)
      (λ i h. refl)
      (λ i h.
      let e : i / at r 3 / at r 2 ≡ 0 = div-eq_of_lt (two g.p3 (rw (mul-one (at r 3)) at h)) in
      rw (e, zero-div (at r 1), zero-mod (at r 1)))
      (λ i h.
      let e : i / at r 3 ≡ 0 = div-eq_of_lt (omega arith) in
      rw (e, zero-div (at r 2), zero-div (at r 1), zero-mod (at r 1), zero-mod (at r 2)))
      (λ i h.
      let e : i ≡ 0 = omega arith in
      rw (e, zero-div (at r 3), zero-div (at r 2), zero-div (at r 1), zero-mod (at r 1), zero-mod (at r 2), zero-mod (at r 3)))

-- how many places they span
pub count_after_lem : (l : List ℕ) (v : ℕ) → v < 4 → count (after v l) ≡ in_row l v
unfolding span
count_after_lem l =
    each (λ v. count (after v l) ≡ in_row l v) (one-mul _) (one-mul _ ∙ one-mul _) (one-mul _ ∙ (one-mul _ ∙ one-mul _))
    (one-mul _ ∙ (one-mul _ ∙ (one-mul _ ∙ one-mul _)))

-- ---- the row

module _ {lx sx r sr : List ℕ} (g : Shaped lx sx r sr) {v k n mx mw mr : ℕ} (p : LogRoom lx r v k n mx mw mr) where
  width : at sr v ≡ in_row r v
  width = stride-at r g.strided.by_r p.some

  wide_lem : at sx v ≡ in_row lx v
  wide_lem = stride-at lx g.strided.by_x p.some

  pub log-fits : k * at sr v + at sr v ≤ n
  log-fits = row_in r p.some p.turn width p.rows

  pub log-under : k * in_row r v + in_row r v ≤ n
  log-under = row_in r p.some p.turn refl p.rows

  -- the weighed rows before it
  pub log_gathers : {md mr' : ℕ} → md ≡ n + k * at sr v - n → mr' ≡ mr → Gathering lx r v k mx md mr'
  log_gathers e f = record {
    some = p.some;
    turn = p.turn;
    room = p.operand;
    before = let d : n + k * at sr v - n ≡ k * at sr v = omega arith in e ∙ (d ∙ ap (λ (s : ℕ). k * s) width);
    full = f ∙ p.full;
  }

  pub some-rows : 1 ≤ at lx v
  some-rows = lengths-pos g.strided.left v p.some

  -- the operand's row k
  pub operand_in : k < at lx v → k * at sx v + at sx v ≤ mx
  operand_in h = row_in lx p.some h wide_lem p.operand

  pub operand_row : (xs : List Float) → part (k * at sx v) (k * at sx v + at sx v) xs ≡ row_at lx v k xs
  operand_row xs = let d : k * at sx v + at sx v - k * at sx v ≡ at sx v = omega arith in rw (d, wide_lem)

  pub operand-less : at sx v ≤ n
  operand-less = rw wide_lem (row_under g.strided.left p.some p.less)

  pub joins : {ax ar : List ℕ} {ma mr' : ℕ} → ax ≡ after v lx → ar ≡ after v r → ma ≡ at sx v → mr' ≡ in_row r v → Joining ax ar ma mr'
  joins ex er ea e = rw (ex, er) record {
    from = after-lengths v g.strided.left;
    to = after-lengths v g.strided.result;
    inner = after-inner v g.inner;
    room = let c = count_after_lem lx v p.some in omega (arith, wide_lem);
    full = e ∙ sym (count_after_lem r v p.some);
  }

  -- what was gathered and negated
  turned-is : (xs ys : List Float) {one two : List Float} {lo : ℕ} → lo ≡ first_turn (at lx v) k
      → one ≡ gathered true lx r v k lo k xs ys → two ≡ table (length one) (negated_at one)
      → two ≡ table (in_row r v) (taken_at lx r v k xs ys)
  unfolding gathered
  turned-is xs ys {one} {two} {lo} e a b =
      let l : length one ≡ in_row r v = ap length a ∙ length-table _ _ in
      let f : ℕ → ℕ → Float = λ j i. walk (pair_at true lx r v k xs ys i) (k - j) j zero_f in
      b ∙ (ap (λ (m : ℕ). table m (negated_at one)) l
      ∙ table_same _ _ (in_row r v) (λ i h. ap neg (ap (λ (z : List Float). get_or z i nan) a ∙ (table_at nan (f lo) (in_row r v) i h ∙ ap
      (λ (j : ℕ). f j i) e))))

  ys-is : (w : List Float) → part n (n + k * at sr v) w ≡ part n (n + k * in_row r v) w
  ys-is w = ap (λ (s : ℕ). part n (n + k * s) w) width

  -- where the operand does not reach
  pub left-short : (xs w : List Float) {one two : List Float} {lo : ℕ} → lo ≡ first_turn (at lx v) k
      → one ≡ gathered true lx r v k lo k xs (part n (n + k * at sr v) w) → two ≡ table (length one) (negated_at one)
      → at lx v ≤ k → two ≡ left_row lx r v k xs (part n (n + k * in_row r v) w)
  unfolding left_row
  left-short xs w e a b h =
      turned-is xs (part n (n + k * in_row r v) w) e (a ∙ ap (gathered true lx r v k _ k xs) (ys-is w)) b ∙ rw (le-ltb k (at lx v) h)

  -- where it does
  pub left-long : (xs w : List Float) {one two three : List Float} {lo : ℕ} {ax ar : List ℕ}
      → lo ≡ first_turn (at lx v) k → one ≡ gathered true lx r v k lo k xs (part n (n + k * at sr v) w)
      → two ≡ table (length one) (negated_at one)
      → k < at lx v → ax ≡ after v lx → ar ≡ after v r → {a : List Float} → a ≡ row_at lx v k xs
      → three ≡ table (count ar) (λ i. join_at false (get_or two i nan) (block ax (multiplied_by k a)) (index ar i))
      → three ≡ left_row lx r v k xs (part n (n + k * in_row r v) w)
  unfolding left_row
  left-long xs w {one} {two} {three} e a b h ex er f t =
      let ys : List Float = part n (n + k * in_row r v) w in
      let c : two ≡ table (in_row r v) (taken_at lx r v k xs ys) = turned-is xs ys e (a ∙ ap (gathered true lx r v k _ k xs) (ys-is w)) b in
      let d : three ≡ table (count (after v r))
      (λ i. join_at false (get_or two i nan) (block (after v lx) (multiplied_by k (row_at lx v k xs)))
      (index (after v r) i)) = t ∙ rw (ex, er, f) in
      d
      ∙ (ap (λ (m : ℕ). table m (λ i. join_at false (get_or two i nan)
      (block (after v lx) (multiplied_by k (row_at lx v k xs))) (index (after v r) i))) (count_after_lem r v p.some)
      ∙ (table_same _ _ (in_row r v) (λ i l.
      ap (λ (z : Float). join_at false z (block (after v lx) (multiplied_by k (row_at lx v k xs))) (index (after v r) i))
      (ap (λ (z : List Float). get_or z i nan) c ∙ table_at nan (taken_at lx r v k xs ys) (in_row r v) i l)
      ∙ ap (join_at false (taken_at lx r v k xs ys i) (block (after v lx) (multiplied_by k (row_at lx v k xs))))
      (sym (index-after r g.strided.result v p.some i l)))
      ∙ rw (lt-ltb k (at lx v) h)))
