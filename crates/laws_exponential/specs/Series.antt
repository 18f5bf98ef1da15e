-- The series over one denominator, and as a polynomial.
use Rattle.std.specs.Prelude.{◌≡◌, refl, List, [], ◌∷◌, ℕ, zero, suc, ◌+◌, ◌*◌, ◌^◌, ◌<◌, ℤ, pos, ◌+ℤ◌, ◌*ℤ◌}
use Rattle.std.proofs.Common.{sym, ap, ap₂, ◌∙◌, mul_assoc, mul_comm, mul_left_comm, pow-suc, mul-pos, zero-lt-suc, arith}
use Rattle.std.proofs.Math.Nat.{pow-zero, one-le-pow}
use Rattle.std.proofs.Math.IntN.{*ℤ-zero, *ℤ_comm, one, pow, pow-succ'}
use Rattle.laws_whole.specs.Int.{ring}
use Rattle.laws_exponential.specs.Poly.{ev, weightℕ, next, power, next-ev, next_power}
use Rattle.model_exponential.specs.Exact.{series, factorial}

-- the sum of the terms 0 to n at z / c, over c ^ n * n!
unfoldable pub series_bottom : ℕ → ℕ → ℕ
series_bottom c zero = 1
series_bottom c (suc n) = series_bottom c n * (c * suc n)

unfoldable pub series_top : ℤ → ℕ → ℕ → ℤ
series_top z c zero = pos 1
series_top z c (suc n) = series_top z c n *ℤ pos (c * suc n) +ℤ pow z (suc n)

bottom-is : (c n : ℕ) → c ^ n * factorial n ≡ series_bottom c n
unfolding series_bottom factorial
bottom-is c zero = ap (λ (v : ℕ). v * 1) (pow-zero c)
bottom-is c (suc n) = rw (pow-suc c n, ← bottom-is c n) (regroup (c ^ n) c (factorial n))
  where
    regroup : (p c f : ℕ) → p * c * (suc n * f) ≡ p * f * (c * suc n)
    regroup p c f = simp (mul_assoc, mul_comm, mul_left_comm)

add_term : (x d k p y n : ℤ) → x *ℤ d ≡ n *ℤ y → (x *ℤ (d *ℤ k) +ℤ p *ℤ y) *ℤ (d *ℤ k) ≡ (n *ℤ k +ℤ p) *ℤ (y *ℤ (d *ℤ k))
add_term x d k p y n h =
    before x d k p y ∙ ap (λ (v : ℤ). v *ℤ (k *ℤ (d *ℤ k)) +ℤ p *ℤ (y *ℤ (d *ℤ k))) h ∙ after d k p y n
  where
    before : (x d k p y : ℤ) → (x *ℤ (d *ℤ k) +ℤ p *ℤ y) *ℤ (d *ℤ k) ≡ x *ℤ d *ℤ (k *ℤ (d *ℤ k)) +ℤ p *ℤ (y *ℤ (d *ℤ k))
    before x d k p y = simp ring

    after : (d k p y n : ℤ) → n *ℤ y *ℤ (k *ℤ (d *ℤ k)) +ℤ p *ℤ (y *ℤ (d *ℤ k)) ≡ (n *ℤ k +ℤ p) *ℤ (y *ℤ (d *ℤ k))
    after d k p y n = simp ring

-- the two say the same number
pub series-is : (z : ℤ) (c n : ℕ)
    → (series (record { top = z; bottom = c }) (suc n)).top *ℤ pos (series_bottom c n)
    ≡ series_top z c n *ℤ pos (series (record { top = z; bottom = c }) (suc n)).bottom
unfolding series series_bottom series_top pow factorial one
series-is z c zero = ap pos (base (c ^ 0) (pow-zero c))
  where
    base : (p : ℕ) → p ≡ 1 → (0 * (p * 1) + 1) * 1 ≡ 1 * (1 * (p * 1))
    base p h = omega arith
series-is z c (suc n) =
    let s = series (record { top = z; bottom = c }) (suc n) in
    rw (bottom-is c (suc n))
    (add_term s.top (pos (series_bottom c n)) (pos (c * suc n)) (pow z (suc n)) (pos s.bottom) (series_top z c n) (series-is z c n))

factorial-pos : (n : ℕ) → 0 < factorial n
unfolding factorial
factorial-pos zero = zero-lt-suc 0
factorial-pos (suc n) = mul-pos (zero-lt-suc n) (factorial-pos n)

pub series_bottom-pos : (z : ℤ) (c n : ℕ) → 0 < c → 0 < (series (record { top = z; bottom = c }) n).bottom
unfolding series
series_bottom-pos z c zero C = zero-lt-suc 0
series_bottom-pos z c (suc n) C = mul-pos (series_bottom-pos z c n C) (mul-pos (one-le-pow n c C) (factorial-pos n))

-- ---- as a polynomial: n! / i! at the place i

unfoldable pub coefs : ℕ → List ℤ
unfolding next
coefs zero = pos 1 ∷ []
coefs (suc n) = next (pos (suc n)) (coefs n)

coefs-power : (z : ℤ) (n : ℕ) → power z (coefs n) ≡ pow z (suc n)
unfolding coefs power pow one
coefs-power z zero = *ℤ_comm z (pos 1)
coefs-power z (suc n) =
    next_power (pos (suc n)) z (coefs n) ∙ ap (λ (v : ℤ). z *ℤ v) (coefs-power z n) ∙ sym (pow-succ' z (suc n))

pub series-ev : (z : ℤ) (c n : ℕ) → series_top z c n ≡ ev (coefs n) z (pos c)
unfolding coefs ev series_top
series-ev z c zero = ap (λ (v : ℤ). pos 1 +ℤ v) (sym (*ℤ-zero z))
series-ev z c (suc n) =
    ap₂ (λ (v w : ℤ). v *ℤ pos (c * suc n) +ℤ w) (series-ev z c n) (sym (coefs-power z n))
    ∙ ap (λ (v : ℤ). v +ℤ power z (coefs n)) (turn (ev (coefs n) z (pos c)) (pos c) (pos (suc n)))
    ∙ sym (next-ev (pos (suc n)) z (pos c) (coefs n))
  where
    turn : (e c k : ℤ) → e *ℤ (c *ℤ k) ≡ k *ℤ c *ℤ e
    turn e c k = simp ring

next-weightℕ : (k : ℤ) (c : ℕ) (s : List ℤ) → weightℕ c (next k s) ≡ c * weightℕ c s
unfolding weightℕ next
next-weightℕ k c [] = refl
next-weightℕ k c (x ∷ s) = ap (λ (w : ℕ). c * w) (next-weightℕ k c s)

pub bottom-weight : (c n : ℕ) → series_bottom c n * c ≡ factorial n * weightℕ c (coefs n)
unfolding coefs series_bottom factorial weightℕ
bottom-weight c zero = let h : 1 * c ≡ 1 * (c * 1) = omega arith in h
bottom-weight c (suc n) =
    rw (next-weightℕ (pos (suc n)) c (coefs n))
    (regroup (series_bottom c n) c (suc n) (factorial n) (weightℕ c (coefs n)) (bottom-weight c n))
  where
    regroup : (b c k f w : ℕ) → b * c ≡ f * w → b * (c * k) * c ≡ k * f * (c * w)
    regroup b c k f w h = let e = ap (λ (v : ℕ). v * (c * k)) h in omega (arith, e)
