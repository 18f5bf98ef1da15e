-- The clauses of `product_at` in the terms of the code, and what it reads of an index and of the blocks.
use Rattle.std.specs.Prelude.{ℕ, zero, suc, ◌+◌, ◌-◌, ◌*◌, ◌≤◌, ◌<◌, List, true, false, not, ◌&&◌, ◌≡◌, refl, eqb, get_or, drop, Float}
use Rattle.std.proofs.Common.{sym, ◌∙◌, arith, add-one, eqb-true}
use Rattle.std.proofs.Math.Path.{ap}
use Rattle.std.specs.Float.{nan, binary64}
use Rattle.std.specs.Float.Ieee.{add, mul}
use Rattle.lists.specs.Test.{of-each, and_right}
use Rattle.lists.specs.Four.{at}
use Rattle.lists.specs.Walk.{walk, walk_same}
use Rattle.model.specs.Header.{span}
use Rattle.model.specs.Places.{strides}
use Rattle.model.specs.General.{lo, steps, line, alone, product_at}
use Rattle.shape_words.specs.InRow.{in_row}
use Rattle.shape_words.specs.Strides.{one_left, stride-at}

-- the test of one long variable
pub alone-by : (r : List ℕ) {s : List ℕ} {v : ℕ} → s ≡ strides r → v < 4 → (not (eqb (at r v) 1) && eqb (at s v) 1) ≡ alone r (4 - (v + 1)) v
unfolding alone
alone-by r {s} {v} e h = ap (λ (m : ℕ). not (eqb (at r v) 1) && eqb m 1) (stride-at r e h ∙ ap (λ (w : ℕ). span r (4 - (v + 1)) w) (add-one v))

pub alone-one : (r : List ℕ) (v : ℕ) → alone r (4 - (v + 1)) v ≡ true → in_row r v ≡ 1
unfolding alone
alone-one r v t =
    ap (λ (w : ℕ). span r (4 - (v + 1)) w) (add-one v) ∙ eqb-true _ _ (and_right (not (eqb (at r v) 1)) (eqb (span r (4 - (v + 1)) (suc v)) 1) t)

-- the numbers before v are not read
pub product-same : (lx ly r k i : List ℕ) (n v : ℕ) (xs ys : List Float) (acc : Float) → ((w : ℕ) → v ≤ w → w < v + n → at k w ≡ at i w)
    → product_at lx ly r k n v xs ys acc ≡ product_at lx ly r i n v xs ys acc
unfolding product_at
product-same lx ly r k i zero v xs ys acc h = refl
product-same lx ly r k i (suc n) v xs ys acc h =
    let e : at k v ≡ at i v = h v (omega arith) (omega arith) in
    rw e (of-each (λ a b. a ≡ b) (alone r n v) refl
    (walk_same _ _ (steps (at lx v) (at ly v) (at i v)) (lo (at ly v) (at i v)) acc
    (λ j p q a. product-same lx ly r k i n (suc v) _ _ a (λ w p q. h w (omega arith) (omega arith)))))

-- a step of the walk over the rows of the variable v: tx and ty are the numbers of places in a row
abbrev pub step_at : List ℕ → List ℕ → List ℕ → List ℕ → ℕ → ℕ → ℕ → ℕ → List Float → List Float → ℕ → Float → Float
step_at lx ly r i v k tx ty xs ys j a = product_at lx ly r i (4 - (v + 1)) (v + 1) (drop (j * tx) xs) (drop ((k - j) * ty) ys) a

module _ (lx ly r i : List ℕ) (v : ℕ) (xs ys : List Float) (acc : Float) where
  pub product_end : v ≡ 4 → product_at lx ly r i (4 - v) v xs ys acc ≡ add binary64 acc (mul binary64 (get_or xs 0 nan) (get_or ys 0 nan))
  unfolding product_at
  product_end h = ap (λ (w : ℕ). product_at lx ly r i (4 - w) w xs ys acc) h

  pub product-line : v < 4 → alone r (4 - (v + 1)) v ≡ true
      → product_at lx ly r i (4 - v) v xs ys acc ≡ add binary64 acc (line xs ys (at lx v) (at ly v) (at i v))
  unfolding product_at
  product-line h t = ap (λ (n : ℕ). product_at lx ly r i n v xs ys acc) (one_left h) ∙ rw t

  pub product-rows : v < 4 → alone r (4 - (v + 1)) v ≡ false
      → product_at lx ly r i (4 - v) v xs ys acc
      ≡ walk (step_at lx ly r i v (at i v) (in_row lx v) (in_row ly v) xs ys) (steps (at lx v) (at ly v) (at i v))
      (lo (at ly v) (at i v)) acc
  unfolding product_at
  product-rows h t =
      ap (λ (n : ℕ). product_at lx ly r i n v xs ys acc) (one_left h)
      ∙ (rw t (sym (ap
      (λ (w : ℕ). walk (λ j a. product_at lx ly r i (4 - (v + 1)) w (drop (j * span lx (4 - (v + 1)) w) xs)
      (drop ((at i v - j) * span ly (4 - (v + 1)) w) ys) a) (steps (at lx v) (at ly v) (at i v))
      (lo (at ly v) (at i v)) acc)
      (add-one v))))
