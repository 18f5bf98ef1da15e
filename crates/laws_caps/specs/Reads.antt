-- What a place of a product reads (document 02, W10): of either operand the places whose indices are at most its own in
-- every variable, and no others. So no place under a cap reads one past it: the numbers of such an index add up to no
-- more.
use Rattle.std.specs.Prelude.{◌≡◌, not, List, eqb, get_or, drop, Float}
use Rattle.std.proofs.Common.{sym, ap, ◌∙◌, zero-mul, mul-one, add-zero, arith, get_or-drop, eqb-true}
use Rattle.std.proofs.Math.Path.{ap₂}
use Prim.Native.Nat.{ℕ, zero, suc, ◌+◌, ◌-◌, ◌*◌, ◌≤◌, ◌<◌}
use Rattle.std.specs.Float.{nan}
use Rattle.std.specs.Float.Ieee.{add, mul, binary64}
use Rattle.lists.specs.Test.{decide, and_right}
use Rattle.lists.specs.Walk.{walk_same}
use Rattle.lists.specs.Four.{at}
use Rattle.model.specs.Header.{span}
use Rattle.model.specs.Refusals.{zero_f}
use Rattle.shape_words.specs.Spans.{span-ones, ones-of-span}
use Rattle.model.specs.General.{lo, steps, term, line, alone, product_at}

-- n variables are left, from v on: two lists hold the same wherever the index is at most k in each of them
abbrev pub AgreeUp : List ℕ → List ℕ → ℕ → ℕ → List Float → List Float → Type 0
AgreeUp l k zero v xs ys = get_or xs 0 nan ≡ get_or ys 0 nan
AgreeUp l k (suc n) v xs ys = (j : ℕ) → j ≤ at k v → j < at l v → AgreeUp l k n (suc v) (drop (j * span l n (suc v)) xs) (drop (j * span l n (suc v)) ys)

-- the first place
agree-first : (l k : List ℕ) (n v : ℕ) (xs ys : List Float) → ((w : ℕ) → v ≤ w → w < v + n → 1 ≤ at l w) → AgreeUp l k n v xs ys → get_or xs
    0 nan ≡ get_or ys 0 nan
agree-first l k zero v xs ys p a = a
agree-first l k (suc n) v xs ys p a =
    agree-first l k n (suc v) xs ys (λ w x y. p w (omega arith) (omega arith))
    (rw (zero-mul (span l n (suc v))) at (a 0 (omega arith) (p v (omega arith) (omega arith))))

-- where the variables after v have length 1, a place of the line
line_first_lem : (l k : List ℕ) (n v : ℕ) (xs ys : List Float) → ((w : ℕ) → v ≤ w → w < v + suc n → 1 ≤ at l w) → span l n (suc v) ≡ 1 →
    AgreeUp l k (suc n) v xs ys
    → (j : ℕ) → j ≤ at k v → j < at l v → get_or xs j nan ≡ get_or ys j nan
line_first_lem l k n v xs ys p s a j x y =
    let d : ℕ = j * span l n (suc v) in
    let i : d + 0 ≡ j = rw (s, mul-one j) (add-zero j) in
    let e : (zs : List Float) → get_or (drop d zs) 0 nan ≡ get_or zs j nan = λ zs. get_or-drop d zs 0 nan ∙ ap (λ (i : ℕ). get_or zs i nan) i in
    sym (e xs) ∙ agree-first l k n (suc v) (drop d xs) (drop d ys) (λ w a b. p w (omega arith) (omega arith)) (a j x y) ∙ e ys

-- lengths of 1 at least, and where the result's are all 1 the operands' are
pub record Fit (lx ly r : List ℕ) (n v : ℕ) : Type 0 where
  pub left : (w : ℕ) → v ≤ w → w < v + n → 1 ≤ at lx w
  pub right : (w : ℕ) → v ≤ w → w < v + n → 1 ≤ at ly w
  pub lone : (m u : ℕ) → v ≤ u → u + m ≤ v + n → span r m u ≡ 1 → (span lx m u ≡ 1) × (span ly m u ≡ 1)

pub fit_next : {lx ly r : List ℕ} {n v : ℕ} → Fit lx ly r (suc n) v → Fit lx ly r n (suc v)
fit_next f = record {
  left = λ w x y. f.left w (omega arith) (omega arith);
  right = λ w x y. f.right w (omega arith) (omega arith);
  lone = λ m u x y. f.lone m u (omega arith) (omega arith);
}

-- operands under the result
pub fit : (lx ly r : List ℕ) → ((w : ℕ) → w < 4 → 1 ≤ at lx w) → ((w : ℕ) → w < 4 → 1 ≤ at ly w) → ((w : ℕ) → w < 4 → at lx w ≤ at r w)
    → ((w : ℕ) → w < 4 → at ly w ≤ at r w)
    → (n v : ℕ) → n + v ≤ 4 → Fit lx ly r n v
fit lx ly r p q x y n v e = record {
  left = λ w a b. p w (omega arith);
  right = λ w a b. q w (omega arith);
  lone = λ m u a b o.
      let one : (w : ℕ) → u ≤ w → w < u + m → at r w ≡ 1 = ones-of-span r m u (λ w c d. omega (arith, p w (omega arith), x w (omega arith))) o in (
        span-ones lx m u (λ w c d. omega (arith, one w c d, p w (omega arith), x w (omega arith))),
        span-ones ly m u (λ w c d. omega (arith, one w c d, q w (omega arith), y w (omega arith))),
      );
}

module _ (lx ly r k : List ℕ) where
  pub product-reads : (n v : ℕ) → Fit lx ly r n v → (xs xs' ys ys' : List Float) → AgreeUp lx k n v xs xs' → AgreeUp ly k n v ys ys' → (acc : Float)
      → product_at lx ly r k n v xs ys acc ≡ product_at lx ly r k n v xs' ys' acc
  unfolding product_at alone line
  product-reads zero v f xs xs' ys ys' a b acc = ap₂ (λ (x y : Float). add binary64 acc (mul binary64 x y)) a b
  product-reads (suc n) v f xs xs' ys ys' a b acc =
      let K : ℕ = at k v in
      let S : ℕ = steps (at lx v) (at ly v) K in
      let L : ℕ = lo (at ly v) K in
      decide (alone r n v)
      (λ t.
      let one = f.lone n (suc v) (omega arith) (omega arith) (eqb-true _ _ (and_right (not (eqb (at r v) 1)) (eqb (span r n (suc v)) 1) t)) in
      rw t (ap (add binary64 acc)
      (walk_same (term xs ys K) (term xs' ys' K) S L zero_f (λ j x y z.
      ap₂ (λ (p q : Float). add binary64 z (mul binary64 p q))
      (line_first_lem lx k n v xs xs' f.left one.0 a j (omega arith) (omega arith))
      (line_first_lem ly k n v ys ys' f.right one.1 b (K - j) (omega arith) (omega arith))))))
      (λ t. rw t
      (walk_same _ _ S L acc (λ j x y z.
      product-reads n (suc v) (fit_next f) _ _ _ _ (a j (omega arith) (omega arith)) (b (K - j) (omega arith) (omega arith)) z)))
