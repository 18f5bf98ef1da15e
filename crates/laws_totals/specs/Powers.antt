-- `number_power` on a whole number is its power, where that is 2 ^ 53 at most in size: then no number on the way is
-- larger.
use Rattle.std.specs.Prelude.{ℕ, zero, suc, ◌+◌, ◌*◌, ◌/◌, ◌%◌, ◌^◌, ◌≤◌, ◌<◌, ◌≡◌, refl, leb, eqb, ℤ, pos, nat_abs, ◌*ℤ◌, Float}
use Rattle.std.proofs.Common.{sym, ◌∙◌, arith, mul-one, one-mul, zero-mul, mul-zero, mul-le-mul_right}
use Rattle.std.proofs.Common.{mul-le-mul_left, le_trans, le_of_eq, leb-true, leb-false, eqb-true}
use Rattle.std.proofs.Math.Path.{ap}
use Rattle.std.proofs.Math.IntN.{*ℤ_comm}
use Rattle.std.specs.Float.Ieee.{mul}
use Rattle.std.specs.Float.{binary64}
use Rattle.std.proofs.lemmas.Bool.{eqb-false}
use Rattle.lists.specs.Test.{decide}
use Rattle.model_forecast.specs.Totals.{squared_number, number_power}
use Rattle.laws_whole.specs.Int.{abs-mul, *ℤ-assoc, *ℤ-unit}
use Rattle.laws_whole.specs.Whole.{Whole, whole-unit}
use Rattle.laws_whole.specs.Exact.{whole-mul}
use Rattle.laws_totals.specs.Kinds.{power_z}

-- ---- powers

one-times : (x : ℤ) → pos 1 *ℤ x ≡ x
one-times x = *ℤ_comm (pos 1) x ∙ *ℤ-unit x

-- of a square
square-power : (x : ℤ) (k : ℕ) → power_z (x *ℤ x) k ≡ power_z x (k + k)
unfolding power_z
square-power x zero = refl
square-power x (suc k) =
    let e : suc k + suc k ≡ suc (suc (k + k)) = omega arith in
    ap (λ (y : ℤ). y *ℤ (x *ℤ x)) (square-power x k) ∙ (sym (*ℤ-assoc (power_z x (k + k)) x x) ∙ ap (power_z x) (sym e))

-- ---- sizes

-- the size of a power
unfoldable size_of : ℕ → ℕ → ℕ
size_of b zero = 1
size_of b (suc e) = size_of b e * b

abs-power : (x : ℤ) (e : ℕ) → nat_abs (power_z x e) ≡ size_of (nat_abs x) e
unfolding power_z size_of
abs-power x zero = refl
abs-power x (suc e) = abs-mul (power_z x e) x ∙ ap (λ (n : ℕ). n * nat_abs x) (abs-power x e)

-- at least 1, and at least the number itself, and its square
size-one : (b e : ℕ) → 1 ≤ b → 1 ≤ size_of b e
unfolding size_of
size-one b zero p = omega arith
size-one b (suc e) p = le_trans (omega arith) (mul-le-mul_right b (size-one b e p))

size-first : (b e : ℕ) → 1 ≤ b → 1 ≤ e → b ≤ size_of b e
unfolding size_of
size-first b zero p q = absurd (omega arith)
size-first b (suc e) p q = le_trans (le_of_eq (sym (one-mul b))) (mul-le-mul_right b (size-one b e p))

size-second : (b e : ℕ) → 1 ≤ b → 2 ≤ e → b * b ≤ size_of b e
unfolding size_of
size-second b zero p q = absurd (omega arith)
size-second b (suc e) p q = mul-le-mul_right b (size-first b e p (omega arith))

-- r times the power is m at most
module _ (r b e m : ℕ) (h : r * size_of b e ≤ m) where
  next_small : 1 ≤ e → r * b ≤ m
  next_small q =
      decide (eqb b 0)
      (λ t. let z : b ≡ 0 = eqb-true b 0 t in rw (z, mul-zero r) (omega arith))
      (λ t. le_trans (mul-le-mul_left r (size-first b e (let n = eqb-false b 0 t in omega arith) q)) h)

  square-small : (1 ≤ b → 1 ≤ r) → 2 ≤ e → b * b ≤ m
  square-small k q =
      decide (eqb b 0)
      (λ t. let z : b ≡ 0 = eqb-true b 0 t in rw (z, mul-zero 0) (omega arith))
      (λ t.
      let p : 1 ≤ b = let n = eqb-false b 0 t in omega arith in
      le_trans (size-second b e p q) (le_trans (le_of_eq (sym (one-mul (size_of b e)))) (le_trans (mul-le-mul_right (size_of b e) (k p)) h)))

-- ---- by squaring

-- a, then the power of b: what is reached, and what is left to do
module _ (a b : ℤ) (k : ℕ) where
  even-left : a *ℤ power_z (b *ℤ b) k ≡ a *ℤ power_z b (k + k)
  even-left = ap (λ (y : ℤ). a *ℤ y) (square-power b k)

  odd-left : a *ℤ b *ℤ power_z (b *ℤ b) k ≡ a *ℤ power_z b (suc (k + k))
  unfolding power_z
  odd-left =
      *ℤ-assoc a b (power_z (b *ℤ b) k)
      ∙ ap (λ (y : ℤ). a *ℤ y) (*ℤ_comm b (power_z (b *ℤ b) k) ∙ ap (λ (y : ℤ). y *ℤ b) (square-power b k))

module _ (a b : ℤ) (e : ℕ) (h : nat_abs (a *ℤ power_z b e) ≤ 2 ^ 53) where
  sizes : nat_abs a * size_of (nat_abs b) e ≤ 2 ^ 53
  sizes = rw (← abs-power b e, ← abs-mul a (power_z b e)) h

  next_fits : 1 ≤ e → nat_abs (a *ℤ b) ≤ 2 ^ 53
  next_fits q = rw (abs-mul a b) (next_small (nat_abs a) (nat_abs b) e (2 ^ 53) sizes q)

  square-fits : (1 ≤ nat_abs b → 1 ≤ nat_abs a) → 2 ≤ e → nat_abs (b *ℤ b) ≤ 2 ^ 53
  square-fits k q = rw (abs-mul b b) (square-small (nat_abs a) (nat_abs b) e (2 ^ 53) sizes k q)

-- a product is at least 1 where both are, and only there
some_left : (a b : ℕ) → 1 ≤ a * b → 1 ≤ a
some_left zero b h = absurd (omega (arith, zero-mul b))
some_left (suc a) b h = omega arith

some-both : (a b : ℕ) → 1 ≤ a → 1 ≤ b → 1 ≤ a * b
some-both a b p q = le_trans p (le_trans (le_of_eq (sym (mul-one a))) (mul-le-mul_left a q))

kept : (a b : ℤ) → (1 ≤ nat_abs b → 1 ≤ nat_abs a) → 1 ≤ nat_abs (b *ℤ b) → 1 ≤ nat_abs (a *ℤ b)
kept a b k h =
    let p : 1 ≤ nat_abs b = some_left (nat_abs b) (nat_abs b) (rw (← abs-mul b b) h) in
    rw (abs-mul a b) (some-both (nat_abs a) (nat_abs b) (k p) p)

kept-square : (a b : ℤ) → (1 ≤ nat_abs b → 1 ≤ nat_abs a) → 1 ≤ nat_abs (b *ℤ b) → 1 ≤ nat_abs a
kept-square a b k h = k (some_left (nat_abs b) (nat_abs b) (rw (← abs-mul b b) h))

squared-whole : (n e : ℕ) {x y : Float} {a b : ℤ} → e < size_of 2 n → Whole x a → Whole y b → nat_abs (a *ℤ power_z b e) ≤ 2 ^ 53
    → (1 ≤ nat_abs b → 1 ≤ nat_abs a) → Whole (squared_number n e x y) (a *ℤ power_z b e)
unfolding squared_number power_z size_of
squared-whole zero e {x} {y} {a} {b} l p q h k =
    let z : e ≡ 0 = omega arith in
    rw (z, *ℤ-unit a) p
squared-whole (suc n) e {x} {y} {a} {b} l p q h k =
    let d : ℕ = e / 2 in
    decide (eqb (e % 2) 1)
    (λ t.
    let o : e % 2 ≡ 1 = eqb-true (e % 2) 1 t in
    let next : Whole (mul binary64 x y) (a *ℤ b) = whole-mul p q (next_fits a b e h (omega arith)) in
    decide (leb e 1)
    (λ u.
    let c : e ≡ 1 = omega (arith, leb-true e 1 u) in
    let g : a *ℤ power_z b 1 ≡ a *ℤ b = ap (λ (m : ℤ). a *ℤ m) (one-times b) in
    rw (t, u) (rw (c, g) next))
    (λ u.
    let m = leb-false e 1 u in
    let c : e ≡ suc (d + d) = omega arith in
    let g : a *ℤ b *ℤ power_z (b *ℤ b) d ≡ a *ℤ power_z b e = odd-left a b d ∙ ap (λ (i : ℕ). a *ℤ power_z b i) (sym c) in
    rw (t, u, ← g)
    (squared-whole n d (omega arith) next (whole-mul q q (square-fits a b e h k (omega arith))) (rw g h) (kept a b k))))
    (λ t.
    let o = eqb-false (e % 2) 1 t in
    decide (leb e 1)
    (λ u.
    let c : e ≡ 0 = omega (arith, leb-true e 1 u) in
    rw (t, u) (rw (c, *ℤ-unit a) p))
    (λ u.
    let m = leb-false e 1 u in
    let c : e ≡ d + d = omega arith in
    let g : a *ℤ power_z (b *ℤ b) d ≡ a *ℤ power_z b e = even-left a b d ∙ ap (λ (i : ℕ). a *ℤ power_z b i) (sym c) in
    rw (t, u, ← g)
    (squared-whole n d (omega arith) p (whole-mul q q (square-fits a b e h k (omega arith))) (rw g h) (kept-square a b k))))

pub power-whole : (e : ℕ) {x : Float} {z : ℤ} → e < 4294967296 → Whole x z → nat_abs (power_z z e) ≤ 2 ^ 53 → Whole (number_power e x) (power_z z e)
unfolding number_power power_z size_of
power-whole e {x} {z} l p h =
    decide (eqb e 0)
    (λ t. let c : e ≡ 0 = eqb-true e 0 t in rw (t, c) whole-unit)
    (λ t.
    decide (eqb e 1)
    (λ u. let c : e ≡ 1 = eqb-true e 1 u in rw (t, u) (rw (c, one-times z) p))
    (λ u.
    rw (t, u, ← one-times (power_z z e))
    (squared-whole 32 e l whole-unit p (rw (one-times (power_z z e)) h) (λ i. omega arith))))
