-- What a place of a quotient reads (document 02, W10): of the places before it those whose indices are at most its own
-- in every variable. So the rows of the recurrence may be capped as they are made, or all at the end: under the cap the
-- bits are the same.
use Rattle.std.specs.Prelude.{◌≡◌, false, List, [], ◌∷◌, take, drop, Float}
use Rattle.std.proofs.Math.Path.{refl, ap}
use Rattle.std.proofs.Common.{sym, ◌∙◌, get_or-take}
use Prim.Native.Nat.{ℕ, zero, suc, ◌-◌, ◌*◌, ◌≤◌, ◌<◌}
use Rattle.std.proofs.Math.Nat.{mul-le-mul_right}
use native.Mathlib.Omega.{arith}
use Rattle.std.proofs.Math.Seq.{take-nil}
use Rattle.std.specs.Float.{nan}
use Rattle.std.specs.Float.Ieee.{add, neg, binary64}
use Rattle.lists.specs.Walk.{walk_same}
use Rattle.lists.specs.Four.{at}
use Rattle.model.specs.Header.{span}
use Rattle.model.specs.Refusals.{zero_f}
use Rattle.model.specs.Poly.{Block}
use Rattle.model.specs.Add.{join_at}
use Rattle.model.specs.General.{lo}
use Rattle.model.specs.Quotient.{rows_before, taken, lessened, quotient_at}
use Rattle.laws_caps.specs.Reads.{AgreeUp, Fit, fit_next, product-reads}

drop-take : (a b : ℕ) (l : List Float) → drop a (take b l) ≡ take (b - a) (drop a l)
drop-take zero b l = let e : b ≡ b - 0 = omega arith in ap (λ (n : ℕ). take n l) e
drop-take (suc a) zero l = let e : 0 ≡ 0 - suc a = omega arith in ap (λ (n : ℕ). take n (drop (suc a) l)) e
drop-take (suc a) (suc b) [] = sym (take-nil (suc b - suc a))
drop-take (suc a) (suc b) (x ∷ l) = let e : b - a ≡ suc b - suc a = omega arith in drop-take a b l ∙ ap (λ (n : ℕ). take n (drop a l)) e

agree-all : (l k : List ℕ) (n v : ℕ) (xs : List Float) → AgreeUp l k n v xs xs
agree-all l k zero v xs = refl
agree-all l k (suc n) v xs = λ j x y. agree-all l k n (suc v) (drop (j * span l n (suc v)) xs)

-- as much as the block has
agree_window : (l k : List ℕ) (n v : ℕ) (xs ys : List Float) (m : ℕ) → span l n v ≤ m → AgreeUp l k n v xs ys → AgreeUp l k n v (take m xs) (take m ys)
unfolding span
agree_window l k zero v xs ys m h a = get_or-take m xs 0 nan h ∙ a ∙ sym (get_or-take m ys 0 nan h)
agree_window l k (suc n) v xs ys m h a = λ j x y.
    let s : ℕ = span l n (suc v) in
    let g : suc j * s ≤ at l v * s = mul-le-mul_right s y in
    rw (drop-take (j * s) m xs, drop-take (j * s) m ys) (agree_window l k n (suc v) (drop (j * s) xs) (drop (j * s) ys) (m - j * s) (omega arith) (a j x y))

-- n variables are left, from v on: the rows before the place's own, as far as it reads them, and what of its own row
-- lies before it
abbrev pub EarlierUp : List ℕ → List ℕ → ℕ → ℕ → List Float → List Float → Type 0
EarlierUp r k zero v q p = Unit {0}
EarlierUp r k (suc n) v q p =
    ((j : ℕ) → j < at k v → AgreeUp r k n (suc v) (drop (j * span r n (suc v)) q) (drop (j * span r n (suc v)) p))
    × EarlierUp r k n (suc v) (drop (at k v * span r n (suc v)) q) (drop (at k v * span r n (suc v)) p)

module _ (ly r : List ℕ) (ys : List Float) (k : List ℕ) where
  taken-reads : (n v : ℕ) → Fit r ly r n (suc v) → (q p : List Float)
      → ((j : ℕ) → j < at k v → AgreeUp r k n (suc v) (drop (j * span r n (suc v)) q) (drop (j * span r n (suc v)) p))
      → taken ly r ys k n v q ≡ taken ly r ys k n v p
  unfolding taken
  taken-reads n v f q p a =
      let s : ℕ = span r n (suc v) in
      let K : ℕ = at k v in
      walk_same _ _ (K - lo (at ly v) K) (lo (at ly v) K) zero_f (λ j x y z.
      let l : j < K = omega arith in
      let g : suc j * s ≤ K * s = mul-le-mul_right s l in
      product-reads r ly r k n (suc v) f _ _ _ _
      (rw (drop-take (j * s) (K * s) q, drop-take (j * s) (K * s) p)
      (agree_window r k n (suc v) (drop (j * s) q) (drop (j * s) p) (K * s - j * s) (omega arith) (a j l)))
      (agree-all ly k n (suc v) (drop ((K - j) * span ly n (suc v)) ys)) z)

  lessened-reads : (n v : ℕ) → Fit r ly r n v → (q p : List Float) → EarlierUp r k n v q p → (c : Float)
      → lessened ly r ys k n v q c ≡ lessened ly r ys k n v p c
  unfolding lessened
  lessened-reads zero v f q p e c = refl
  lessened-reads (suc n) v f q p e c =
      lessened-reads n (suc v) (fit_next f) (drop (rows_before ly r ys k n v) q) (drop (rows_before ly r ys k n v) p) e.1
      (add binary64 (neg (taken ly r ys k n v q)) c)
      ∙ ap (λ (x : Float). lessened ly r ys k n (suc v) (drop (rows_before ly r ys k n v) p) (add binary64 (neg x) c)) (taken-reads n v (fit_next f) q p e.0)

-- a place of a quotient, from places that agree before it
pub quotient-reads : (x y : Block) (r k : List ℕ) → Fit r y.lengths r 4 0 → (q p : List Float) → EarlierUp r k 4 0 q p
    → quotient_at x y r k q ≡ quotient_at x y r k p
unfolding quotient_at
quotient-reads x y r k f q p e =
    let ly = y.lengths in
    let ys = y.places in
    lessened-reads ly r ys k 3 1 (fit_next f) (drop (rows_before ly r ys k 3 0) q) (drop (rows_before ly r ys k 3 0) p) e.1
    (join_at false (neg (taken ly r ys k 3 0 q)) x k)
    ∙ ap (λ (z : Float). lessened ly r ys k 3 1 (drop (rows_before ly r ys k 3 0) p) (join_at false (neg z) x k))
    (taken-reads ly r ys k 3 0 (fit_next f) q p e.0)
