-- What the linear test's loops carry: places that are zero so far, and variables that do not fit so far.
use Prim.Native.Nat.{ℕ, zero, suc, ◌+◌, ◌-◌, ◌≤◌, ◌<◌}
use Rattle.std.specs.Prelude.{List, [], ◌∷◌, Bool, true, ◌&&◌, ◌≡◌, leb, Float, length}
use Rattle.std.proofs.Math.Bool.{false}
use Rattle.std.proofs.Math.Path.{refl, ap}
use Rattle.std.proofs.Common.{sym, ◌∙◌, leb-true}
use Rattle.std.proofs.Math.Numerals.{add-one}
use Rattle.std.proofs.Math.Nat.{zero-add, suc-add}
use native.Mathlib.Omega.{arith}
use Rattle.lists.specs.Test.{and_left}
use Rattle.lists.specs.Four.{at, each}
use Rattle.model.specs.Header.{count}
use Rattle.model.specs.Places.{strides, offset}
use Rattle.model.specs.Poly.{Block, block}
use Rattle.model.specs.Linear.{no_linear, linear_place, zeros_but, linear_in, line_of, linear_from}
use Rattle.shape_words.specs.Lengths.{Lengths}
use Rattle.shape_words.specs.Places.{place-lt}

module _ (a : List Float) (s : ℕ) where
  pub zeros-none : zeros_but a s 0 ≡ true
  unfolding zeros_but
  zeros-none = refl

  pub zeros-more : (n : ℕ) → zeros_but a s n ≡ true → linear_place a s n ≡ true → zeros_but a s (n + 1) ≡ true
  unfolding zeros_but
  zeros-more n h k = rw add-one (simp (h, k))

  zeros-keep : (n k : ℕ) → zeros_but a s n ≡ false → zeros_but a s (k + n) ≡ false
  unfolding zeros_but
  zeros-keep n zero h = rw zero-add h
  zeros-keep n (suc k) h = rw suc-add (simp (zeros-keep n k h))

  pub zeros-stop : (n m : ℕ) → zeros_but a s n ≡ true → linear_place a s n ≡ false → n < m → zeros_but a s m ≡ false
  unfolding zeros_but
  zeros-stop n m h k l =
      let e : m - suc n + suc n ≡ m = omega arith in
      let f : zeros_but a s (suc n) ≡ false = simp (h, k) in
      ap (zeros_but a s) (sym e) ∙ zeros-keep (suc n) (m - suc n) f

-- the first variable that fits
module _ (b : Block) where
  pub from_found : (v : ℕ) → v < 4 → linear_in b v ≡ true → linear_from b (4 - v) v ≡ line_of b v
  unfolding linear_from
  from_found v h t = let e : 4 - v ≡ suc (4 - (v + 1)) = omega arith in ap (λ (n : ℕ). linear_from b n v) e ∙ simp t

  pub from_next : (v : ℕ) → v < 4 → linear_in b v ≡ false → linear_from b (4 - v) v ≡ linear_from b (4 - (v + 1)) (v + 1)
  unfolding linear_from
  from_next v h t =
      let e : 4 - v ≡ suc (4 - (v + 1)) = omega arith in
      ap (λ (n : ℕ). linear_from b n v) e ∙ ((simp t) ∙ ap (linear_from b (4 - (v + 1))) (sym (add-one v)))

  pub from_end : (v : ℕ) → 4 ≤ v → linear_from b (4 - v) v ≡ no_linear
  unfolding linear_from
  from_end v h = let e : 4 - v ≡ 0 = omega arith in ap (λ (n : ℕ). linear_from b n v) e

-- row 1 begins below the count
stride-lt : {n : List ℕ} → Lengths n → (v : ℕ) → v < 4 → 2 ≤ at n v → at (strides n) v < count n
unfolding offset
stride-lt {n} g =
    each (λ v. 2 ≤ at n v → at (strides n) v < count n)
    (λ t. omega (arith, place-lt n (1 ∷ 0 ∷ 0 ∷ 0 ∷ []) (record { i0 = omega arith; i1 = g.p1; i2 = g.p2; i3 = g.p3 })))
    (λ t. omega (arith, place-lt n (0 ∷ 1 ∷ 0 ∷ 0 ∷ []) (record { i0 = g.p0; i1 = omega arith; i2 = g.p2; i3 = g.p3 })))
    (λ t. omega (arith, place-lt n (0 ∷ 0 ∷ 1 ∷ 0 ∷ []) (record { i0 = g.p0; i1 = g.p1; i2 = omega arith; i3 = g.p3 })))
    (λ t. omega (arith, place-lt n (0 ∷ 0 ∷ 0 ∷ 1 ∷ []) (record { i0 = g.p0; i1 = g.p1; i2 = g.p2; i3 = omega arith })))

-- the test of one variable, as `fits_in` answers it
module _ (a : List Float) (n : List ℕ) (full : length a ≡ count n) {s : List ℕ} (e : s ≡ strides n) (v : ℕ) {r : Bool}
    (k : r ≡ (leb 2 (at n v) && zeros_but a (at s v) (length a))) where
  pub fits-is : r ≡ linear_in (block n a) v
  unfolding linear_in
  fits-is = k ∙ (rw (e, full))

  pub fits_low : Lengths n → v < 4 → r ≡ true → at s v < length a
  fits_low g h t = rw (e, full) (stride-lt g v h (leb-true _ _ (and_left (leb 2 (at n v)) (zeros_but a (at s v) (length a)) (sym k ∙ t))))
