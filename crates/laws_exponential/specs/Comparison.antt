-- e ^ 9 times the exact value at z / c against the exact turns at z / c + 9: both are polynomials, the second one
-- shifted, and a computed test bounds what is between them.
use Rattle.std.specs.Prelude.{◌≡◌, refl, List, [], ◌∷◌, true, ℕ, zero, suc, ◌+◌, ◌-◌, ◌*◌, ◌/◌, ◌^◌, ◌≤◌, ◌<◌, ℤ, pos, neg_ℤ, nat_abs, ◌+ℤ◌, ◌*ℤ◌}
use Rattle.std.proofs.Common.{sym, ap, ap₂, ◌∙◌, le-add_right, mul-le-mul_left, mul-le-mul_right, le_of_mul-le-mul_right, arith, lit≤}
use Rattle.std.proofs.Math.Nat.{eq_of_mul-eq-mul_right}
use Rattle.std.proofs.Math.IntN.{*ℤ-zero, zero-*ℤ}
use Rattle.laws_exponential.specs.Poly.{ev, weight, weightℕ, weight-pos, shift, shift-ev, carry, combine, combine-ev, alike, size, size-bound}
use Rattle.model_exponential.specs.Exact.{factorial}
use Rattle.laws_exponential.specs.Series.{series_top, series_bottom, coefs, series-ev, bottom-weight}
use Rattle.laws_exponential.specs.Turns.{top, bottom}

-- ---- the polynomial of the exact turns, 119! / i! at the place i below 72, and 0 above

unfoldable pub zeros : ℕ → List ℤ
zeros zero = []
zeros (suc n) = pos 0 ∷ zeros n

-- 119! / 71!, and 119! / (71 - m)!
unfoldable pub front : ℕ → ℕ
unfolding factorial
front zero = factorial 119 / factorial 71
front (suc m) = (71 - m) * front m

unfoldable pub terms : ℕ → List ℤ
unfolding zeros front
terms zero = pos (front 0) ∷ zeros 48
terms (suc m) = pos (front (suc m)) ∷ terms m

zeros-ev : (z c : ℤ) (n : ℕ) → ev (zeros n) z c ≡ pos 0
unfolding ev zeros
zeros-ev z c zero = refl
zeros-ev z c (suc n) = ap₂ ◌+ℤ◌ (zero-times (weight c (zeros n))) (ap (λ (v : ℤ). z *ℤ v) (zeros-ev z c n) ∙ *ℤ-zero z)
  where
    zero-times : (w : ℤ) → pos 0 *ℤ w ≡ pos 0
    zero-times w = zero-*ℤ w

-- what the exact turns lack of that denominator
unfoldable pub scale : ℕ → ℕ
scale c = front 0 * weightℕ c (zeros 48)

weight-turn : (c s k f w b : ℕ) → f * w ≡ s * b * c → k * f * (c * w) ≡ s * (1 * (c * k * b)) * c
weight-turn c s k f w b h = let e = ap (λ (v : ℕ). v * (c * k)) h in omega (arith, e)

ev-turn : (c s k f w b t p : ℕ) → f * w ≡ s * b * c → k * f * w + t * (s * p) ≡ s * (1 * (c * k * b) + t * 1 * p * 1)
ev-turn c s k f w b t p h = let e = ap (λ (v : ℕ). v * k) h in omega (arith, e)

pub front-weight : (c m : ℕ) → front m * weightℕ c (terms m) ≡ scale c * bottom c m * c
unfolding terms scale bottom weightℕ
front-weight c zero = base (front 0) c (weightℕ c (zeros 48))
  where
    base : (f c w : ℕ) → f * (c * w) ≡ f * w * 1 * c
    base f c w = omega arith
front-weight c (suc m) = weight-turn c (scale c) (71 - m) (front m) (weightℕ c (terms m)) (bottom c m) (front-weight c m)

pub terms-ev : (t c m : ℕ) → ev (terms m) (pos t) (pos c) ≡ pos (scale c * top t c m)
unfolding ev terms scale top
terms-ev t c zero =
    ap₂ (λ (v w : ℤ). pos (front 0) *ℤ v +ℤ pos t *ℤ w) (weight-pos c (zeros 48)) (zeros-ev (pos t) (pos c) 48)
    ∙ ap pos (base (front 0 * weightℕ c (zeros 48)) t)
  where
    base : (f t : ℕ) → f + t * 0 ≡ f * 1
    base f t = omega arith
terms-ev t c (suc m) =
    ap₂ (λ (v w : ℤ). pos (front (suc m)) *ℤ v +ℤ pos t *ℤ w) (weight-pos c (terms m)) (terms-ev t c m)
    ∙ ap pos (ev-turn c (scale c) (71 - m) (front m) (weightℕ c (terms m)) (bottom c m) t (top t c m) (front-weight c m))

-- ---- e ^ 9, a little above: the fraction of these two, which is within 2 ^ -70

abbrev pub e9 : ℕ
e9 = 9566432986865429280020359

abbrev pub e9_unit : ℕ
e9_unit = 1180591620717411303424

shifted : List ℤ
unfolding shift terms
shifted = shift (pos 9) (terms 71)

between : List ℤ
unfolding combine coefs shifted
between = combine (pos e9) (coefs 119) (neg_ℤ (pos e9_unit)) shifted

-- the computed tests
as_long : alike (coefs 119) shifted ≡ true
unfolding alike coefs shifted carry
as_long = refl

small : size between * 2 ^ 44 ≤ e9_unit * factorial 119
unfolding size between factorial
small = lit≤ tt

front-is : front 71 ≡ factorial 119
unfolding front
front-is = refl

between-weight : (c : ℕ) → weightℕ c between ≡ weightℕ c (terms 71)
unfolding weightℕ between terms
between-weight c = refl

coefs-weight : (c : ℕ) → weightℕ c (coefs 119) ≡ weightℕ c (terms 71)
unfolding weightℕ coefs terms
coefs-weight c = refl

-- ---- what follows

pub top-bottom : (t c m : ℕ) → bottom c (suc m) ≤ top t c (suc m)
unfolding top bottom
top-bottom t c m = le-add_right (1 * (c * (71 - m) * bottom c m)) (t * 1 * top t c m * 1)

cancel : (x c w s P u f a b p : ℕ) → 0 < c → x * c ≤ w * s → s * P ≤ u * f → f * w ≡ a * b * c → b ≤ p → x * P ≤ u * (a * p)
cancel x c w s P u f a b p C h i e j =
    let h' = mul-le-mul_right P h in
    let i' = mul-le-mul_left w i in
    let e' = ap (λ (v : ℕ). u * v) e in
    let j' = mul-le-mul_left (u * a * c) j in
    le_of_mul-le-mul_right {k = c} (omega (arith, h', i', e', j')) C

between-ev : (z : ℤ) (c : ℕ)
    → ev between z (pos c) ≡ pos e9 *ℤ ev (coefs 119) z (pos c) +ℤ neg_ℤ (pos e9_unit) *ℤ ev shifted z (pos c)
unfolding between
between-ev z c = combine-ev (pos e9) (neg_ℤ (pos e9_unit)) z (pos c) (coefs 119) shifted as_long

shifted-ev : (z : ℤ) (c : ℕ) → ev shifted z (pos c) ≡ ev (terms 71) (z +ℤ pos 9 *ℤ pos c) (pos c)
unfolding shifted
shifted-ev z c = shift-ev (pos 9) z (pos c) (terms 71)

pub compared : (z : ℤ) (c t : ℕ) → 0 < c → nat_abs z ≤ 8 * c → pos t ≡ z +ℤ pos 9 *ℤ pos c
    → nat_abs (pos e9 *ℤ series_top z c 119 +ℤ neg_ℤ (pos e9_unit) *ℤ pos (scale c * top t c 71)) * 2 ^ 44 ≤ e9_unit * (scale c * top t c 71)
compared z c t C h e =
    let is : ev between z (pos c) ≡ pos e9 *ℤ series_top z c 119 +ℤ neg_ℤ (pos e9_unit) *ℤ pos (scale c * top t c 71) =
    between-ev z c
    ∙ ap₂ (λ (v w : ℤ). pos e9 *ℤ v +ℤ neg_ℤ (pos e9_unit) *ℤ w) (sym (series-ev z c 119))
    (shifted-ev z c ∙ ap (λ (v : ℤ). ev (terms 71) v (pos c)) (sym e) ∙ terms-ev t c 71) in
    rw (← is)
    (cancel (nat_abs (ev between z (pos c))) c (weightℕ c (terms 71)) (size between) (2 ^ 44) e9_unit (factorial 119) (scale c) (bottom c 71)
    (top t c 71) C (rw (between-weight c) at (size-bound z c between h)) small (rw front-is at (front-weight c 71)) (top-bottom t c 70))

-- the exact value's denominator is that of the exact turns, scaled
pub bottoms : (c : ℕ) → 0 < c → series_bottom c 119 ≡ scale c * bottom c 71
bottoms c C =
    eq_of_mul-eq-mul_right c C (series_bottom c 119) (scale c * bottom c 71)
    (bottom-weight c 119 ∙ ap (λ (v : ℕ). factorial 119 * v) (coefs-weight c)
    ∙ ap (λ (v : ℕ). v * weightℕ c (terms 71)) (sym front-is) ∙ front-weight c 71)
