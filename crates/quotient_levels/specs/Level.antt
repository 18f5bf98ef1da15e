-- The sub-block of the variables from v on, row by row: the row k is the sub-block of the variables after v, of what
-- the rows before leave of c.
use Prim.Native.Nat.{ℕ, zero, suc, ◌+◌, ◌-◌, ◌*◌, ◌≤◌, ◌<◌}
use mathlib.Core.List.{List, [], ◌++◌}
use Rattle.std.specs.Prelude.{◌≡◌, refl, get_or, take, drop}
use Rattle.std.proofs.Common.{sym, ◌∙◌, add-one, take_at, drop_at}
use Rattle.std.proofs.Math.Path.{ap}
use native.Mathlib.Omega.{arith}
use Rattle.std.proofs.Math.ListN.{length, length-append}
use Rattle.std.proofs.Math.Seq.{drop-nil}
use Rattle.std.specs.Float.Ieee.{Float, nan, add, neg, div, binary64}
use Rattle.lists.specs.Four.{at}
use Rattle.lists.specs.Table.{table, table_at}
use Rattle.lists.specs.Walk.{walk, walk_same}
use Rattle.lists.specs.Grow.{grow}
use Rattle.model.specs.Header.{span}
use Rattle.model.specs.Places.{index}
use Rattle.model.specs.Refusals.{zero_f}
use Rattle.model.specs.General.{lo, product_at}
use Rattle.model.specs.Quotient.{taken, lessened}
use Rattle.shape_words.specs.Lengths.{Lengths}
use Rattle.shape_words.specs.InRow.{in_row, split_at}
use Rattle.product_general.specs.Product.{step_at, product-same}
use Rattle.quotient_levels.specs.Grows.{grow-add, grow-same, length-grown}

-- what the rows before the row k of the variable v take from its place i
abbrev pub taken_at : List ℕ → List ℕ → ℕ → ℕ → List Float → List Float → ℕ → Float
taken_at ly r v k before ys i = walk (step_at r ly r (index r i) v k (in_row r v) (in_row ly v) before ys) (k - lo (at ly v) k) (lo (at ly v) k) zero_f

-- what they leave of c
abbrev pub left_at : List ℕ → List ℕ → ℕ → ℕ → List Float → List Float → List Float → ℕ → Float
left_at ly r v k before ys c i = add binary64 (neg (taken_at ly r v k before ys i)) (get_or c (k * in_row r v + i) nan)

-- the next place of the sub-block, q those before it
abbrev pub level_at : List ℕ → List ℕ → List Float → ℕ → List Float → List Float → Float
level_at ly r ys v c q = lessened ly r ys (index r (length q)) (4 - v) v q (get_or c (length q) nan)

unfoldable pub level_of : List ℕ → List ℕ → List Float → ℕ → List Float → List Float
level_of ly r ys v c = grow (span r (4 - v) v) (level_at ly r ys v c) []

-- the numbers before v are not read
taken-same : (ly r : List ℕ) (ys : List Float) (k i : List ℕ) (n v : ℕ) (q : List Float)
    → ((w : ℕ) → v ≤ w → w < v + suc n → at k w ≡ at i w) → taken ly r ys k n v q ≡ taken ly r ys i n v q
unfolding taken
taken-same ly r ys k i n v q h =
    let e : at k v ≡ at i v = h v (omega arith) (omega arith) in
    rw e (walk_same _ _ (at i v - lo (at ly v) (at i v)) (lo (at ly v) (at i v)) zero_f
    (λ j a b x. product-same r ly r k i n (suc v) _ _ x (λ w p l. h w (omega arith) (omega arith))))

pub lessened-same : (ly r : List ℕ) (ys : List Float) (k i : List ℕ) (n v : ℕ) (q : List Float) (c : Float) → ((w : ℕ) → v ≤ w → w < v + n → at k w ≡ at i w)
    → lessened ly r ys k n v q c ≡ lessened ly r ys i n v q c
unfolding lessened
lessened-same ly r ys k i zero v q c h = refl
lessened-same ly r ys k i (suc n) v q c h =
    ap (λ (x : ℕ). lessened ly r ys k n (suc v) (drop (x * span r n (suc v)) q)
    (add binary64 (neg (taken ly r ys k n v q)) c)) (h v (omega arith) (omega arith))
    ∙ (ap (λ (x : Float). lessened ly r ys k n (suc v) (drop (at i v * span r n (suc v)) q) (add binary64 (neg x) c)) (taken-same ly r ys k i n v q h)
    ∙ lessened-same ly r ys k i n (suc v) _ _ (λ w p l. h w (omega arith) (omega arith)))

module _ (ly r : List ℕ) (ys : List Float) (v : ℕ) (h : v < 4) where
  -- one variable
  lessened-more : (i : List ℕ) (q : List Float) (c : Float)
      → lessened ly r ys i (4 - v) v q c ≡ lessened ly r ys i (4 - (v + 1)) (v + 1) (drop (at i v * in_row r v) q)
      (add binary64 (neg (taken ly r ys i (4 - (v + 1)) v q)) c)
  unfolding lessened
  lessened-more i q c =
      let e : 4 - v ≡ suc (4 - (v + 1)) = omega arith in
      ap (λ (n : ℕ). lessened ly r ys i n v q c) e
      ∙ ap (λ (w : ℕ). lessened ly r ys i (4 - (v + 1)) w (drop (at i v * span r (4 - (v + 1)) w) q)
      (add binary64 (neg (taken ly r ys i (4 - (v + 1)) v q)) c)) (sym (add-one v))

  module _ (g : Lengths r) {k : ℕ} (l : k < at r v) (before : List Float) (full : length before ≡ k * in_row r v) where
    pub taken_row_lem : (i : ℕ) (q : List Float) → i < in_row r v
        → taken ly r ys (index r (k * in_row r v + i)) (4 - (v + 1)) v (before ++ q) ≡ taken_at ly r v k before ys i
    unfolding taken
    taken_row_lem i q m =
        let n : ℕ = 4 - (v + 1) in
        let j : List ℕ = index r (k * in_row r v + i) in
        let s = split_at r g k i v h l m in
        let walk_of : ℕ → ℕ → Float =
        λ x w. walk (λ y a. product_at r ly r j n w (drop (y * span r n w) (take (x * span r n w) (before ++ q)))
        (drop ((x - y) * span ly n w) ys) a) (x - lo (at ly v) x) (lo (at ly v) x) zero_f in
        let e : walk_of (at j v) (suc v) ≡ walk_of k (v + 1) = ap (λ (x : ℕ). walk_of x (suc v)) s.here ∙ ap (walk_of k) (sym (add-one v)) in
        e ∙ rw (take_at before q (k * in_row r v) full)
        (walk_same _ _ (k - lo (at ly v) k) (lo (at ly v) k) zero_f
        (λ y a b x. product-same r ly r j (index r i) n (v + 1) _ _ x
        (λ w p t. s.after w (omega arith) (omega arith))))

    -- the place i of the row k
    pub row_at_lem : (q : List Float) (c : Float) → length q < in_row r v
        → lessened ly r ys (index r (k * in_row r v + length q)) (4 - v) v (before ++ q) c
        ≡ lessened ly r ys (index r (length q)) (4 - (v + 1)) (v + 1) q (add binary64 (neg (taken_at ly r v k before ys (length q))) c)
    row_at_lem q c m =
        let j : List ℕ = index r (k * in_row r v + length q) in
        let s = split_at r g k (length q) v h l m in
        lessened-more j (before ++ q) c
        ∙ (rw (taken_row_lem (length q) q m, s.here, drop_at before q (k * in_row r v) full)
        (lessened-same ly r ys j (index r (length q)) (4 - (v + 1)) (v + 1) q _ (λ w p t. s.after w (omega arith) (omega arith))))

  -- one row more
  pub level-more : (g : Lengths r) {k : ℕ} → k < at r v → (c : List Float) → let before = grow (k * in_row r v) (level_at ly r ys v c) [] in
      grow ((k + 1) * in_row r v) (level_at ly r ys v c) [] ≡ before ++ level_of ly r ys (v + 1) (table (in_row r v) (left_at ly r v k before ys c))
  unfolding level_of
  level-more g {k} l c =
      let f : List Float → Float = level_at ly r ys v c in
      let b : List Float = grow (k * in_row r v) f [] in
      let n : length b ≡ k * in_row r v = length-grown f (k * in_row r v) in
      let e : (k + 1) * in_row r v ≡ k * in_row r v + in_row r v = omega arith in
      let same : (q : List Float) → length q < in_row r v → f (b ++ q) ≡ level_at ly r ys (v + 1) (table (in_row r v) (left_at ly r v k b ys c)) q =
      λ q m.
      let z : length (b ++ q) ≡ k * in_row r v + length q = length-append b q ∙ ap (λ (x : ℕ). x + length q) n in
      rw (z, table_at nan (left_at ly r v k b ys c) (in_row r v) (length q) m) (row_at_lem g l b n q (get_or c (k * in_row r v + length q) nan) m) in
      ap (λ (m : ℕ). grow m f []) e ∙ (grow-add f (k * in_row r v) (in_row r v) ∙ ap (λ (x : List Float). b ++ x) (grow-same _ _ (in_row r v) same))

-- a variable in which the place has the number 0
abbrev pub passed : ℕ → Float → Float
passed v c = add binary64 (neg zero_f) c

-- the number 0 in every variable left
pub lessened-zeros : (ly r : List ℕ) (ys : List Float) (i : List ℕ) (n v : ℕ) (c : Float) → ((w : ℕ) → v ≤ w → w < v + n → at i w ≡ 0)
    → lessened ly r ys i n v [] c ≡ div binary64 (walk passed n v c) (get_or ys 0 nan)
unfolding lessened taken walk
lessened-zeros ly r ys i zero v c h = refl
lessened-zeros ly r ys i (suc n) v c h =
    let z : at i v ≡ 0 = h v (omega arith) (omega arith) in
    let e : at i v - lo (at ly v) (at i v) ≡ 0 = omega arith in
    let t : taken ly r ys i n v [] ≡ zero_f =
    ap (λ (x : ℕ). walk (λ j acc. product_at r ly r i n (suc v)
    (drop (j * span r n (suc v)) (take (at i v * span r n (suc v)) []))
    (drop ((at i v - j) * span ly n (suc v)) ys) acc) x (lo (at ly v) (at i v)) zero_f) e in
    ap (λ (x : List Float). lessened ly r ys i n (suc v) x (add binary64 (neg (taken ly r ys i n v [])) c)) (drop-nil (at i v * span r n (suc v)))
    ∙ (ap (λ (x : Float). lessened ly r ys i n (suc v) [] (add binary64 (neg x) c)) t
    ∙ lessened-zeros ly r ys i n (suc v) (passed v c) (λ w p q. h w (omega arith) (omega arith)))
