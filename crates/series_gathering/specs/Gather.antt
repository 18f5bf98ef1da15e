-- The row k of a variable v, gathered from the rows of two blocks.
use Prim.Native.Nat.{ℕ, zero, suc, ◌+◌, ◌-◌, ◌*◌, ◌≤◌, ◌<◌, min}
use Rattle.std.specs.Prelude.{List, [], ◌∷◌, Bool, ◌≡◌, refl, length, get_or, take, drop, set, Float}
use Rattle.std.proofs.Math.Bool.{false}
use Rattle.std.proofs.Math.Path.{sym, ap}
use Rattle.std.proofs.Common.{◌∙◌, mul-le-mul_right, suc-mul, zero-mul, length-take, length-drop, get_or-drop, get_or-take}
use native.Mathlib.Omega.{arith}
use Rattle.std.specs.Float.{nan, binary64}
use Rattle.std.specs.Float.Ieee.{add, mul}
use Rattle.lists.specs.Four.{at, each}
use Rattle.lists.specs.Table.{table, table_same, table_at}
use Rattle.lists.specs.Walk.{walk, walk_same}
use Rattle.lists.specs.Part.{one_place}
use Rattle.model.specs.Places.{index}
use Rattle.model.specs.Refusals.{zero_f, zeros}
use Rattle.model.specs.General.{lo, term, alone, product_at}
use Rattle.shape_words.specs.Lengths.{Lengths, lengths-pos}
use Rattle.shape_words.specs.Spans.{ones-of-span, span-ones}
use Rattle.blocks.specs.Rows.{Inner}
use Rattle.shape_words.specs.InRow.{in_row, split_at}
use Rattle.shape_words.specs.Strides.{stride-at, row_in, first_in, span_pos}
use Rattle.product_general.specs.Rows.{Strided, Rowing, rows_of}
use Rattle.product_general.specs.Pairs.{Paired, paired_end}
use Rattle.product_lines.specs.Fours.{Summing}
use Rattle.series_gathering.specs.Reach.{left_of, Reach, Shaped, Gathering}

-- the row j of the variable v
abbrev pub row_at : List ℕ → ℕ → ℕ → List Float → List Float
row_at l v j xs = take (in_row l v) (drop (j * in_row l v) xs)

-- what two rows of xs and ys add to the place i of the row k at the turn j
abbrev pub pair_at : Bool → List ℕ → List ℕ → ℕ → ℕ → List Float → List Float → ℕ → ℕ → Float → Float
pair_at back lx r v k xs ys i j acc =
    product_at lx r r (index r i) (4 - (v + 1)) (v + 1) (row_at lx v (left_of back k j) xs)
    (row_at r v (k - left_of back k j) ys) acc

-- the turns from a up to b
unfoldable pub gathered : Bool → List ℕ → List ℕ → ℕ → ℕ → ℕ → ℕ → List Float → List Float → List Float
gathered back lx r v k a b xs ys = table (in_row r v) (λ i. walk (pair_at back lx r v k xs ys i) (b - a) a zero_f)

-- ---- row by row

length-mid : (p t : ℕ) (xs : List Float) → p + t ≤ length xs → length (take (p + t - p) (drop p xs)) ≡ t
length-mid p t xs h = simp (length-take, length-drop) (omega arith)

-- a turn of the loop: the rows that are multiplied lie in their blocks
module _ {lx sx r sr : List ℕ} (g : Strided lx sx r sr r sr) {v k j mr : ℕ} (xs done : List Float)
    (t : Gathering lx r v k (length xs) (length done) mr) {back : Bool} {lo hi : ℕ} (o : Reach back k (at lx v) lo hi)
    (a : lo ≤ j) (h : j < hi) {i : ℕ} (e : i ≡ left_of back k j) where
  pub left_in_lem : i * at sx v + at sx v ≤ length xs
  left_in_lem = row_in lx t.some (omega (arith, o.within j a h)) (stride-at lx g.by_x t.some) t.room

  pub below : i ≤ k
  below = omega (arith, o.most j a h)

  pub right_in_lem : (k - i) * at sr v + at sr v ≤ length done
  right_in_lem =
      let m : suc (k - i) * in_row r v ≤ k * in_row r v = mul-le-mul_right (in_row r v) (omega (arith, o.some j a h, below)) in
      rw (stride-at r g.by_r t.some) (omega (arith, t.before, m, suc-mul (k - i) (in_row r v)))

  pub gathers : {n : ℕ} → n ≡ in_row r v
      → Rowing lx r r (v + 1) (length (take (i * at sx v + at sx v - i * at sx v) (drop (i * at sx v) xs)))
      (length (take ((k - i) * at sr v + at sr v - (k - i) * at sr v) (drop ((k - i) * at sr v) done))) n
  gathers f =
      record {
        within = let s = t.some in omega arith;
        room_x = rw (length-mid (i * at sx v) (at sx v) xs left_in_lem) (omega (arith, stride-at lx g.by_x t.some));
        room_y = rw (length-mid ((k - i) * at sr v) (at sr v) done right_in_lem) (omega (arith, stride-at r g.by_r t.some));
        full = f;
      }

  -- what it adds
  pub gather-step : (row : List Float) {new : List Float}
      → new ≡ rows_of lx r r (v + 1) (take (i * at sx v + at sx v - i * at sx v) (drop (i * at sx v) xs))
      (take ((k - i) * at sr v + at sr v - (k - i) * at sr v) (drop ((k - i) * at sr v) done)) row
      → new ≡ table (in_row r v) (λ q. pair_at back lx r v k xs done q j (get_or row q nan))
  unfolding rows_of
  gather-step row n =
      let x : i * at sx v + at sx v - i * at sx v ≡ at sx v = omega arith in
      let y : (k - i) * at sr v + at sr v - (k - i) * at sr v ≡ at sr v = omega arith in
      n ∙ rw (x, y, stride-at lx g.by_x t.some, stride-at r g.by_r t.some, e)

-- all rows before the row k
pub gather_end : (back : Bool) (lx r : List ℕ) (v k a b : ℕ) (xs done : List Float) {j n : ℕ} {old row : List Float}
    → Paired (in_row r v) (pair_at back lx r v k xs done) a j old row → old ≡ zeros n → n ≡ in_row r v → j ≡ a + (b - a)
    → row ≡ gathered back lx r v k a b xs done
unfolding gathered
gather_end back lx r v k a b xs done {j} {n} {old} {row} p z m e =
    let o : (q : ℕ) → q < in_row r v → get_or old q nan ≡ zero_f = λ q l. ap (λ (x : List Float). get_or x q nan) z ∙ table_at nan (λ i.
    zero_f) n q (omega arith) in
    paired_end (b - a) p e ∙ table_same _ _ (in_row r v) (λ q l. rw (o q l))

-- ---- a row of one place

-- a product of single places
product-ones : (lx ly r k : List ℕ) (n v : ℕ) (xs ys : List Float) (acc : Float)
    → ((w : ℕ) → v ≤ w → w < v + n → at lx w ≡ 1) → ((w : ℕ) → v ≤ w → w < v + n → at ly w ≡ 1)
    → ((w : ℕ) → v ≤ w → w < v + n → at r w ≡ 1) → ((w : ℕ) → v ≤ w → w < v + n → at k w ≡ 0)
    → product_at lx ly r k n v xs ys acc ≡ add binary64 acc (mul binary64 (get_or xs 0 nan) (get_or ys 0 nan))
unfolding product_at alone walk
product-ones lx ly r k zero v xs ys acc x y z o = refl
product-ones lx ly r k (suc n) v xs ys acc x y z o =
    rw (z v (omega arith) (omega arith), o v (omega arith) (omega arith), x v (omega arith) (omega arith), y v (omega arith) (omega arith), zero-mul, zero-mul)
    (product-ones lx ly r k n (suc v) xs ys acc (λ w p q. x w (omega arith) (omega arith))
    (λ w p q. y w (omega arith) (omega arith)) (λ w p q. z w (omega arith) (omega arith))
    (λ w p q. o w (omega arith) (omega arith)))

-- the first place has the index 0
index-first : {r : List ℕ} → Lengths r → (w : ℕ) → w < 4 → at (index r 0) w ≡ 0
index-first {r} g w h =
    let e : 0 * in_row r w + 0 ≡ 0 = omega arith in
    ap (λ (p : ℕ). at (index r p) w) (sym e) ∙ (split_at r g 0 0 w h (lengths-pos g w h) (span_pos g (omega arith))).here

pub inner-at : {n c : List ℕ} → Inner n c → (w : ℕ) → w < 4 → at c w ≤ at n w
inner-at {n} {c} i = each (λ w. at c w ≤ at n w) i.c0 i.c1 i.c2 i.c3

first_of : (j : ℕ) (xs : List Float) → get_or (take 1 (drop (j * 1) xs)) 0 nan ≡ get_or xs j nan
first_of j xs =
    get_or-take 1 (drop (j * 1) xs) 0 nan (omega arith)
    ∙ (get_or-drop (j * 1) xs 0 nan ∙ ap (λ (i : ℕ). get_or xs i nan) (let e : j * 1 + 0 ≡ j = omega arith in e))

module _ {lx sx r sr : List ℕ} (g : Shaped lx sx r sr) {v k mx md mr : ℕ} (t : Gathering lx r v k mx md mr) (o : at sr v ≡ 1) where
  abbrev rest : ℕ
  rest = 4 - (v + 1)

  pub row_one_lem : in_row r v ≡ 1
  row_one_lem = sym (stride-at r g.strided.by_r t.some) ∙ o

  ones-r : (w : ℕ) → v + 1 ≤ w → w < v + 1 + rest → at r w ≡ 1
  ones-r = let s = t.some in ones-of-span r rest (v + 1) (λ w p q. lengths-pos g.strided.result w (omega arith)) row_one_lem

  ones-x : (w : ℕ) → v + 1 ≤ w → w < v + 1 + rest → at lx w ≡ 1
  ones-x w p q =
      let s = t.some in
      omega (arith, ones-r w p q, inner-at g.inner w (omega arith), lengths-pos g.strided.left w (omega arith))

  row-x : in_row lx v ≡ 1
  row-x = let s = t.some in span-ones lx rest (v + 1) ones-x

  pub sums : {hi : ℕ} → hi ≡ min (k + 1) (at lx v) → Summing k 1 hi mx md
  sums e = record {
    below = omega arith;
    left = omega (arith, first_in g.strided.left t.some t.room);
    right = omega (arith, t.before, ap (λ (m : ℕ). k * m) row_one_lem);
  }

  pub sum_is : (xs done old : List Float) {hi : ℕ} {x : Float} → hi ≡ min (k + 1) (at lx v) → length old ≡ mr
      → x ≡ walk (term xs done k) (hi - 1) 1 zero_f
      → set old 0 x ≡ gathered false lx r v k 1 (min (k + 1) (at lx v)) xs done
  unfolding gathered table
  sum_is xs done old {hi} {x} e l h =
      let s = t.some in
      let f = t.full in
      let m : ℕ = min (k + 1) (at lx v) - 1 in
      let step : (j : ℕ) (acc : Float) → term xs done k j acc ≡ pair_at false lx r v k xs done 0 j acc = λ j acc.
      sym (product-ones lx r r (index r 0) rest (v + 1) (row_at lx v j xs)
      (row_at r v (k - j) done) acc ones-x ones-r ones-r (λ w p q. index-first g.strided.result w (omega arith))
      ∙ rw (row_one_lem, row-x) (rw (first_of j xs, first_of (k - j) done))) in
      let w : x ≡ walk (pair_at false lx r v k xs done 0) m 1 zero_f =
      h ∙ (ap (λ (n : ℕ). walk (term xs done k) (n - 1) 1 zero_f) e ∙ walk_same _ _ m 1 zero_f (λ j p q acc. step j acc)) in
      one_place x old (l ∙ (f ∙ row_one_lem)) ∙ (ap (λ (y : Float). y ∷ []) w
      ∙ ap (λ (n : ℕ). table n (λ i. walk (pair_at false lx r v k xs done i) m 1 zero_f)) (sym row_one_lem))

-- the turns of exp: as far as x reaches
pub exp-reach : {k m hi : ℕ} → hi ≡ min (k + 1) m → Reach false k m 1 hi
exp-reach e = record { turns = omega arith; some = λ j a b. a; most = λ j a b. omega arith; within = λ j a b. omega arith }
