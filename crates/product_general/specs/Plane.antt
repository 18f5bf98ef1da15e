-- Two long variables: a plane, whose rows are made of pairs of lines. xs has rows of tx places, the first nx of them a
-- line; ys rows of ty, and ny.
use Rattle.std.specs.Prelude.{ℕ, suc, ◌+◌, ◌-◌, ◌*◌, ◌/◌, ◌%◌, ◌≤◌, ◌<◌, min, true, ◌≡◌, take, drop, Float}
use mathlib.Core.List.{List, ◌++◌}
use Rattle.std.proofs.Common.{sym, ap, ◌∙◌, arith, mul-one, suc-mul, mul-le-mul_right, le_refl, div-add-mod', mod-lt}
use Rattle.std.proofs.Common.{div-lt_iff_lt-mul, length-take, length-drop, drop-drop}
use Rattle.std.proofs.Math.Nat.{mod-eq_of_lt, div-eq_of_lt}
use Rattle.std.proofs.Math.ListN.{length, get_or}
use Rattle.std.proofs.Math.Seq.{get_or-drop, get_or-take}
use Rattle.std.specs.Float.Ieee.{nan, add}
use Rattle.std.specs.Float.{binary64}
use borrow.Author.Rules.{part_to_end}
use borrow.Rule.Slice.PartMut.{put_mid}
use Rattle.lists.specs.Four.{at}
use Rattle.lists.specs.Table.{table, table_same, Filled}
use Rattle.lists.specs.Walk.{walk, walk_same}
use Rattle.model.specs.Header.{span}
use Rattle.model.specs.Places.{index, strides}
use Rattle.model.specs.General.{lo, steps, line, alone, product_at}
use Rattle.shape_words.specs.Lengths.{Lengths, lengths-pos, lengths-most}
use Rattle.lists.specs.Fill.{filled_row, filled-rest, filled-all}
use Rattle.shape_words.specs.InRow.{in_row, row-div, row_mod, split_at}
use Rattle.shape_words.specs.Strides.{span_more, span_pos, row_in, first_in, stride-at}
use Rattle.product_general.specs.Product.{alone-one, product-line, product-rows}
use Rattle.product_general.specs.Rows.{Strided, Rowing, Several, TwoLong, rows_of}
use Rattle.product_lines.specs.Added.{line_added}
use Rattle.product_general.specs.Pairs.{from_on, rows-line}
use Rattle.product_general.specs.Bounds.{line-size, turn}

-- the lines of the pairs from a up to b of the row k are there; n, m and r are the lengths of the buffers and of the
-- row
pub record Lining (tx nx ty ny k a b n m r : ℕ) : Type 0 where
  pub below : b ≤ k + 1
  pub small : k < 64
  pub size : r ≤ 64
  pub left : (j : ℕ) → a ≤ j → j < b → j * tx + nx ≤ n
  pub right : (j : ℕ) → a ≤ j → j < b → (k - j) * ty + ny ≤ m

-- all the rows: mx and my on the left and the right, h of s places in the result
pub record Planing (mx tx nx my ty ny h s n m r : ℕ) : Type 0 where
  pub some : 0 < my
  pub many : h ≤ 64
  pub size : s ≤ 64
  pub left : (j : ℕ) → j < mx → j * tx + nx ≤ n
  pub right : (j : ℕ) → j < my → j * ty + ny ≤ m
  pub full : r ≡ h * s

-- what the pair j adds to the place q of the row k
abbrev pub line_at : List Float → ℕ → ℕ → List Float → ℕ → ℕ → ℕ → ℕ → ℕ → Float → Float
line_at xs tx nx ys ty ny k q j acc = add binary64 acc (line (drop (j * tx) xs) (drop ((k - j) * ty) ys) nx ny q)

unfoldable pub lines_of : List Float → ℕ → ℕ → List Float → ℕ → ℕ → ℕ → ℕ → ℕ → List Float → List Float
lines_of xs tx nx ys ty ny k a b row = table (length row) (λ q. walk (line_at xs tx nx ys ty ny k q) (b - a) a (get_or row q nan))

abbrev pub plane_at : List Float → ℕ → ℕ → ℕ → List Float → ℕ → ℕ → ℕ → ℕ → List Float → ℕ → Float
plane_at xs mx tx nx ys my ty ny s old p = walk (line_at xs tx nx ys ty ny (p / s) (p % s)) (steps mx my (p / s)) (lo my (p / s)) (get_or old p nan)

unfoldable pub plane_of : List Float → ℕ → ℕ → ℕ → List Float → ℕ → ℕ → ℕ → ℕ → List Float → List Float
plane_of xs mx tx nx ys my ty ny s old = table (length old) (plane_at xs mx tx nx ys my ty ny s old)

-- a turn of the loop over j
pub lines_step : (xs ys row : List Float) (tx nx ty ny k j : ℕ) {n : ℕ} {new : List Float} → length row ≡ n
    → new ≡ table (length row) (line_added (from_on xs (j * tx)) (from_on ys ((k - j) * ty)) nx ny row)
    → new ≡ table n (λ q. line_at xs tx nx ys ty ny k q j (get_or row q nan))
lines_step xs ys row tx nx ty ny k j e h =
    h ∙ (ap (λ (l : List Float). table (length row) (line_added l (from_on ys ((k - j) * ty)) nx ny row)) (part_to_end xs (j * tx))
    ∙ (ap (λ (l : List Float). table (length row) (line_added (drop (j * tx) xs) l nx ny row)) (part_to_end ys ((k - j) * ty))
    ∙ ap (λ (n : ℕ). table n (λ q. line_at xs tx nx ys ty ny k q j (get_or row q nan))) e))

-- a row lies in the plane
pub row-there : (s : ℕ) {k h r : ℕ} → k < h → r ≡ h * s → k * s + s ≤ r
row-there s {k} {h} l e = let c : suc k * s ≤ h * s = mul-le-mul_right s l in omega (arith, c, suc-mul k s)

-- the row k, from the pairs that it has
pub lining-of : {mx tx nx my ty ny h s n m r : ℕ} (p : Planing mx tx nx my ty ny h s n m r) {k a b e : ℕ} → k < h
    → a ≡ lo my k → b ≡ min (k + 1) mx → e ≡ s → (out : List Float)
    → Lining tx nx ty ny k a b n m (length (take e (drop (k * s) out)))
lining-of {mx} {my = my} {s = s} p {k} {a} {b} {e} l ea eb ee out =
    let u = p.many in
    let z = p.size in
    record {
      below = omega arith;
      small = omega arith;
      size = omega (arith, length-take e (drop (k * s) out));
      left = λ j q t. p.left j (turn {nx = mx} {ny = my} {k = k} p.some ea eb q t).left;
      right = λ j q t. p.right (k - j) (turn {nx = mx} {ny = my} {k = k} p.some ea eb q t).right;
    }

-- a plane of the variables v and v + 1
module _ {lx sx ly sy r sr : List ℕ} (g : Strided lx sx ly sy r sr) {v nx ny nr : ℕ} (p : Rowing lx ly r v nx ny nr) (m : Several r v) (z : TwoLong r v) where
  -- a line of a row lies in the block
  line_in_lem : (l : List ℕ) {s : List ℕ} {n : ℕ} → Lengths l → s ≡ strides l → span l (4 - v) v ≤ n → (j : ℕ) → j < at l v → j * at s v + at l (v + 1) ≤ n
  line_in_lem l {s} {n} k e b j h =
      let i : at l (v + 1) ≤ at s v = first_in k z.next (rw (stride-at l e m.some) (le_refl (in_row l v))) in
      omega (arith, i, row_in l m.some h (stride-at l e m.some) b)

  pub planing-of : Planing (at lx v) (at sx v) (at lx (v + 1)) (at ly v) (at sy v) (at ly (v + 1)) (at r v) (at sr v) nx ny nr
  planing-of =
      let e : at sr v ≡ in_row r v = stride-at r g.by_r m.some in
      record {
        some = lengths-pos g.right v m.some;
        many = lengths-most g.result v m.some;
        size = line-size g.result z.next z.last e;
        left = line_in_lem lx g.left g.by_x p.room_x;
        right = line_in_lem ly g.right g.by_y p.room_y;
        full = p.full ∙ rw (e, span_more r m.some);
      }

module _ (xs : List Float) (mx tx nx : ℕ) (ys : List Float) (my ty ny s : ℕ) where
  row_made : (k : ℕ) {a b : ℕ} {old out row : List Float}
      → Filled (k * s) (plane_at xs mx tx nx ys my ty ny s old) old out → a ≡ lo my k → b ≡ min (k + 1) mx
      → k * s + s ≤ length old
      → row ≡ lines_of xs tx nx ys ty ny k a b (take s (drop (k * s) out)) → row ≡ table s (λ q. plane_at xs mx tx nx ys my ty ny s old (k * s + q))
  unfolding lines_of
  row_made k {a} {b} {old} {out} {row} f ea eb l e =
      let n : length (take s (drop (k * s) out)) ≡ s = simp (length-take, length-drop) (omega (arith, f.len)) in
      let o : (q : ℕ) → q < s → get_or (take s (drop (k * s) out)) q nan ≡ get_or old (k * s + q) nan =
      λ q l. get_or-take s (drop (k * s) out) q nan l ∙ (ap (λ (x : List Float). get_or x q nan) (filled-rest f) ∙ get_or-drop (k * s) old q nan) in
      let d : (q : ℕ) → q < s → (k * s + q) / s ≡ k = λ q l. row-div k q (omega arith) ∙ omega (arith, div-eq_of_lt l) in
      let m : (q : ℕ) → q < s → (k * s + q) % s ≡ q = λ q l. row_mod k q (omega arith) ∙ mod-eq_of_lt l in
      e ∙ (ap (λ (i : ℕ). table i (λ q. walk (line_at xs tx nx ys ty ny k q) (b - a) a (get_or (take s (drop (k * s) out)) q nan))) n
      ∙ table_same _ _ s (λ q l. rw (o q l, d q l, m q l, ea, eb)))

  -- a turn of the loop over k, as the row that was lent comes back
  pub plane-next : (k : ℕ) {a b e : ℕ} {old out row : List Float}
      → Filled (k * s) (plane_at xs mx tx nx ys my ty ny s old) old out → a ≡ lo my k → b ≡ min (k + 1) mx → e ≡ s
      → k * s + s ≤ length old
      → row ≡ lines_of xs tx nx ys ty ny k a b (take e (drop (k * s) out))
      → Filled ((k + 1) * s) (plane_at xs mx tx nx ys my ty ny s old) old (put_mid (k * s) e out row)
  plane-next k {a} {b} {e} {old} {out} {row} f ea eb ee l h =
      let d : row ≡ lines_of xs tx nx ys ty ny k a b (take s (drop (k * s) out)) =
      h ∙ ap (λ (i : ℕ). lines_of xs tx nx ys ty ny k a b (take i (drop (k * s) out))) ee in
      let p : put_mid (k * s) e out row ≡ take (k * s) out ++ (row ++ drop (k * s + s) out) =
      rw ee (ap (λ (l : List Float). take (k * s) out ++ (row ++ l)) (drop-drop s (k * s) out)) in
      let t : k * s + s ≡ (k + 1) * s = omega arith in
      rw (p, ← t) (filled_row s f (row_made k f ea eb l d) l)

  pub plane_end : (k : ℕ) {old out : List Float} → Filled (k * s) (plane_at xs mx tx nx ys my ty ny s old) old out
      → length old ≡ k * s → out ≡ plane_of xs mx tx nx ys my ty ny s old
  unfolding plane_of
  plane_end k f e = filled-all f (omega arith) (omega arith)

-- one pair, of the whole of both: one long variable is left
pub rows-lined : (lx ly r : List ℕ) (v : ℕ) (xs ys old : List Float) {new : List Float} → Lengths r → v < 4
    → alone r (4 - (v + 1)) v ≡ true → length old ≡ span r (4 - v) v
    → new ≡ lines_of xs 0 (at lx v) ys 0 (at ly v) 0 0 1 old → new ≡ rows_of lx ly r v xs ys old
unfolding lines_of walk
rows-lined lx ly r v xs ys old g h t n e = rows-line lx ly r v xs ys old g h t n e

-- a plane is what the variables from v on make, where the one after v is the last long one
module _ (lx ly r : List ℕ) (g : Lengths r) {v : ℕ} (m : Several r v) (z : TwoLong r v) where
  place-made : (xs ys : List Float) (acc : Float) (p : ℕ) → p < span r (4 - v) v
      → walk (line_at xs (in_row lx v) (at lx (v + 1)) ys (in_row ly v) (at ly (v + 1)) (p / in_row r v) (p % in_row r v))
      (steps (at lx v) (at ly v) (p / in_row r v)) (lo (at ly v) (p / in_row r v)) acc
      ≡ product_at lx ly r (index r p) (4 - v) v xs ys acc
  place-made xs ys acc p l =
      let w = z.next in
      let t = z.last in
      let s : ℕ = in_row r v in
      let i : List ℕ = index r p in
      let y : 0 < s = span_pos g (omega arith) in
      let k : p / s < at r v = (div-lt_iff_lt-mul y).1 (rw (span_more r m.some) at l) in
      let q : p % s < s = mod-lt p y in
      let f : p / s * s + p % s ≡ p = div-add-mod' p s in
      let d = split_at r g (p / s) (p % s) v m.some k q in
      let h : at i v ≡ p / s = ap (λ (x : ℕ). at (index r x) v) (sym f) ∙ d.here in
      let o : in_row r (v + 1) ≡ 1 = alone-one r (v + 1) t in
      let c : s ≡ at r (v + 1) = span_more r w ∙ rw o (mul-one (at r (v + 1))) in
      let n : p % s < at r (v + 1) = omega (arith, q, c) in
      let u : p % s * in_row r (v + 1) + 0 ≡ p % s = rw o (omega arith) in
      let j : at (index r (p % s)) (v + 1) ≡ p % s = ap (λ (x : ℕ). at (index r x) (v + 1)) (sym u) ∙ (split_at r g (p % s) 0 (v + 1) w n (omega arith)).here in
      let b : at i (v + 1) ≡ p % s = ap (λ (x : ℕ). at (index r x) (v + 1)) (sym f) ∙ (d.after (v + 1) (omega arith) w ∙ j) in
      sym (product-rows lx ly r i v xs ys acc m.some m.more
      ∙ (walk_same _ (line_at xs (in_row lx v) (at lx (v + 1)) ys (in_row ly v) (at ly (v + 1)) (at i v) (at i (v + 1)))
      (steps (at lx v) (at ly v) (at i v)) (lo (at ly v) (at i v)) acc
      (λ j a c y. product-line lx ly r i (v + 1) _ _ y w t) ∙ rw (h, b)))

  pub rows-plane : (xs ys old : List Float) {tx ty s : ℕ} {new : List Float} → tx ≡ in_row lx v → ty ≡ in_row ly v → s ≡ in_row r v → length
      old ≡ span r (4 - v) v
      → new ≡ plane_of xs (at lx v) tx (at lx (v + 1)) ys (at ly v) ty (at ly (v + 1)) s old → new ≡ rows_of lx ly r v xs ys old
  unfolding rows_of plane_of
  rows-plane xs ys old ex ey es n e =
      e ∙ (rw (ex, ey, es, n) (table_same _ _ (span r (4 - v) v) (λ p l. place-made xs ys (get_or old p nan) p l)))
