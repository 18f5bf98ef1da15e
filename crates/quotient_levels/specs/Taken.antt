-- The row k of a variable v: what the rows before it take, summed row by row, or in one sum where a row is one place.
use Prim.Native.Nat.{ℕ, zero, suc, ◌+◌, ◌-◌, ◌*◌, ◌≤◌, ◌<◌}
use Rattle.std.specs.Prelude.{List, [], ◌∷◌, ◌≡◌, refl, length, get_or, set}
use Rattle.std.proofs.Math.Path.{sym, ap}
use Rattle.std.proofs.Common.{◌∙◌, arith, mul-le-mul_right, suc-mul, zero-mul, get_or-drop}
use Rattle.std.specs.Float.Ieee.{Float, add, mul}
use Rattle.std.specs.Float.{nan, binary64}
use Rattle.lists.specs.Four.{at, each, at-four}
use Rattle.lists.specs.Table.{table, table_same, table_at}
use Rattle.lists.specs.Walk.{walk, walk_same}
use Rattle.lists.specs.Part.{one_place}
use Rattle.model.specs.Header.{span}
use Rattle.model.specs.Places.{index}
use Rattle.model.specs.Refusals.{zero_f, zeros}
use Rattle.model.specs.General.{lo, term, product_at}
use Rattle.shape_words.specs.Lengths.{lengths-pos, sizes-of}
use Rattle.shape_words.specs.Spans.{span-ones, ones-of-span}
use Rattle.blocks.specs.Rows.{at_first}
use Rattle.shape_words.specs.InRow.{in_row}
use Rattle.shape_words.specs.Strides.{stride-at, row_in, first_in}
use Rattle.product_general.specs.Product.{step_at}
use Rattle.product_general.specs.Rows.{Strided, Rowing}
use Rattle.product_general.specs.Pairs.{Paired, paired_end, from_on}
use Rattle.product_general.specs.Bounds.{length_on}
use Rattle.product_lines.specs.Fours.{Summing}
use Rattle.quotient_levels.specs.Room.{Dividing, Taking, Single}
use Rattle.quotient_levels.specs.Level.{taken_at}

-- ---- row by row

-- a turn of the loop: the rows that are multiplied lie in their blocks
module _ {ly sy r sr : List ℕ} (g : Strided r sr ly sy r sr) {v k j mr : ℕ} (done ys : List Float)
    (t : Taking ly r v k (length done) (length ys) mr) (a : lo (at ly v) k ≤ j) (h : j < k) where
  reach : k - j < at ly v
  reach = let p = lengths-pos g.right v t.some in omega arith

  pub done_in : j * at sr v + at sr v ≤ length done
  done_in =
      let m : suc j * in_row r v ≤ k * in_row r v = mul-le-mul_right (in_row r v) h in
      rw (stride-at r g.by_r t.some) (omega (arith, t.before, m, suc-mul j (in_row r v)))

  pub divisor_in : (k - j) * at sy v + at sy v ≤ length ys
  divisor_in = row_in ly t.some reach (stride-at ly g.by_y t.some) t.room

  pub taking-rows : {n : ℕ} → n ≡ in_row r v → Rowing r ly r (v + 1) (length (from_on done (j * at sr v))) (length (from_on ys ((k - j) * at sy v))) n
  taking-rows e =
      record {
        within = let s = t.some in omega arith;
        room_x = rw (length_on (j * at sr v) done) (omega (arith, done_in, stride-at r g.by_r t.some));
        room_y = rw (length_on ((k - j) * at sy v) ys) (omega (arith, divisor_in, stride-at ly g.by_y t.some));
        full = e;
      }

-- all rows before the row k
pub taken_end : (ly r : List ℕ) (v k : ℕ) (done ys : List Float) {tx ty a j n : ℕ} {old row : List Float}
    → Paired (in_row r v) (λ q. step_at r ly r (index r q) v k tx ty done ys) a j old row → old ≡ zeros n → n ≡ in_row r v
    → tx ≡ in_row r v → ty ≡ in_row ly v → a ≡ lo (at ly v) k → j ≡ a + (k - a)
    → row ≡ table (in_row r v) (taken_at ly r v k done ys)
taken_end ly r v k done ys {tx} {ty} {a} {j} {n} {old} {row} p z m ex ey ea e =
    let o : (q : ℕ) → q < in_row r v → get_or old q nan ≡ zero_f = λ q l. ap (λ (x : List Float). get_or x q nan) z ∙ table_at nan (λ i.
    zero_f) n q (omega arith) in
    paired_end (k - a) p e ∙ table_same _ _ (in_row r v) (λ q l. rw (o q l, ex, ey, ea))

-- ---- a row of one place

-- through lengths of 1 a product is one term
product-ones : (lx ly r i : List ℕ) (n v : ℕ) (xs ys : List Float) (acc : Float)
    → ((w : ℕ) → v ≤ w → w < v + n → (at lx w ≡ 1) × (at ly w ≡ 1) × (at r w ≡ 1) × (at i w ≡ 0))
    → product_at lx ly r i n v xs ys acc ≡ add binary64 acc (mul binary64 (get_or xs 0 nan) (get_or ys 0 nan))
unfolding product_at
product-ones lx ly r i zero v xs ys acc h = refl
product-ones lx ly r i (suc n) v xs ys acc h =
    let o = h v (omega arith) (omega arith) in
    rw (o.0, o.1, o.2, o.3, zero-mul (span lx n (suc v)), zero-mul (span ly n (suc v)))
    (product-ones lx ly r i n (suc v) xs ys acc (λ w p q. h w (omega arith) (omega arith)))

module _ {ly r : List ℕ} {v : ℕ} (g : Single ly r v) where
  ones : (w : ℕ) → v + 1 ≤ w → w < 4 → (at r w ≡ 1) × (at ly w ≡ 1)
  ones w p q =
      let s = g.some in
      let a : at r w ≡ 1 = ones-of-span r (4 - (v + 1)) (v + 1) (λ x b d. lengths-pos g.result x (omega arith)) g.one w p (omega arith) in
      let b = lengths-pos g.right w q in
      let d = each (λ x. at ly x ≤ at r x) g.inner.c0 g.inner.c1 g.inner.c2 g.inner.c3 w q in
      (a, omega arith)

  pub first-zero : (w : ℕ) → w < 4 → at (index r 0) w ≡ 0
  first-zero w q = ap (λ (x : List ℕ). at x w) (sym (at_first (sizes-of g.result)).is) ∙ at-four (λ x. 0) w q

  one-ly : in_row ly v ≡ 1
  one-ly = let s = g.some in span-ones ly (4 - (v + 1)) (v + 1) (λ w p q. (ones w p (omega arith)).1)

  pub taken-sum : (k : ℕ) (done ys : List Float) → taken_at ly r v k done ys 0 ≡ walk (term done ys k) (k - lo (at ly v) k) (lo (at ly v) k) zero_f
  taken-sum k done ys =
      walk_same _ _ (k - lo (at ly v) k) (lo (at ly v) k) zero_f (λ j p q a.
      let s = g.some in
      let x : j * in_row r v + 0 ≡ j = rw g.one (omega arith) in
      let y : (k - j) * in_row ly v + 0 ≡ k - j = rw one-ly (omega arith) in
      product-ones r ly r (index r 0) (4 - (v + 1)) (v + 1) _ _ a (λ w b d. let u = ones w b (omega arith) in (u.0, u.1, u.0, first-zero w (omega arith)))
      ∙ (rw (get_or-drop (j * in_row r v) done 0 nan, get_or-drop ((k - j) * in_row ly v) ys 0 nan, x, y)))

  -- its terms lie in the places before it and in the divisor
  pub summing : {k a nx ny : ℕ} → a ≡ lo (at ly v) k → k ≤ nx → span ly (4 - v) v ≤ ny → Summing k a k nx ny
  summing p h m =
      let q = lengths-pos g.right v g.some in
      record { below = omega arith; left = h; right = omega (arith, first_in g.right g.some m) }

module _ {ly sy r sr : List ℕ} (g : Dividing ly sy r sr) {v k mr : ℕ} (done ys : List Float)
    (t : Taking ly r v k (length done) (length ys) mr) (e : at sr v ≡ 1) where
  single : Single ly r v
  single =
      record {
        right = g.strided.right;
        result = g.strided.result;
        inner = g.inner;
        some = t.some;
        one = sym (stride-at r g.strided.by_r t.some) ∙ e;
      }

  pub one_summing : {a : ℕ} → a ≡ lo (at ly v) k → Summing k a k (length done) (length ys)
  one_summing p = summing single p (let m : k * in_row r v ≡ k = rw single.one (omega arith) in omega (arith, t.before)) t.room

  pub one-taken : (old : List Float) {a : ℕ} {z : Float} → length old ≡ mr → a ≡ lo (at ly v) k
      → z ≡ walk (term done ys k) (k - a) a zero_f → set old 0 z ≡ table (in_row r v) (taken_at ly r v k done ys)
  unfolding table
  one-taken old {a} {z} l p h =
      let f : ℕ → Float = taken_at ly r v k done ys in
      let b : z ≡ f 0 = h ∙ (ap (λ (x : ℕ). walk (term done ys k) (k - x) x zero_f) p ∙ sym (taken-sum single k done ys)) in
      one_place z old (l ∙ (t.full ∙ single.one)) ∙ (ap (λ (x : Float). x ∷ []) b ∙ ap (λ (n : ℕ). table n f) (sym single.one))
