-- The arithmetic of the last step: from inequalities between products to the distance of two fractions. Nothing here is
-- about floats.
use Rattle.std.specs.Prelude.{◌≡◌, refl, ℕ, zero, suc, ◌+◌, ◌-◌, ◌*◌, ◌≤◌, ◌<◌, ltb, ℤ, pos, negsuc, neg_ℤ, nat_abs, ◌+ℤ◌, ◌-ℤ◌, ◌*ℤ◌}
use Rattle.std.proofs.Common.{sym, ap, ap₂, ◌∙◌, mul-le-mul_left, mul-le-mul_right, le_of_mul-le-mul_right, arith, ltb-true, ltb-false}
use Rattle.std.proofs.Math.IntN.{neg_ℤ-+ℤ}
use Rattle.lists.specs.Test.{decide}
use Rattle.laws_whole.specs.Int.{ring, left_distrib, right_distrib, neg_*ℤ, *ℤ-neg, abs_neg, abs-mul}

-- ---- the distance of two numbers

distance : (x y : ℕ) → nat_abs (pos x +ℤ neg_ℤ (pos y)) ≡ (x - y) + (y - x)
distance x zero = omega arith
distance x (suc y) =
    decide (ltb x (suc y))
    (λ t. let l = ltb-true x (suc y) t in rw t (omega arith))
    (λ t. let l = ltb-false x (suc y) t in rw t (omega arith))

-- ---- the exact value is positive, and near the exact turns' result

-- n is near u * w / a
pub record Ratio (N : ℤ) (a v P : ℕ) : Type 0 where
  pub n : ℕ
  pub is : N ≡ pos n
  pub under : a * n * P ≤ v * P + v
  pub over : v * P ≤ a * n * P + v

pub ratio : (N : ℤ) (a v P : ℕ) → 0 < v → 1 < P → nat_abs (pos a *ℤ N +ℤ neg_ℤ (pos v)) * P ≤ v → Ratio N a v P
ratio (pos n) a v P vp Q h = record {
  n = n;
  is = refl;
  under = (go (rw (distance (a * n) v) at h)).0;
  over = (go (rw (distance (a * n) v) at h)).1;
}
  where
    split : (x v d P : ℕ) → d * P ≤ v → x ≤ v + d → v ≤ x + d → (x * P ≤ v * P + v) × (v * P ≤ x * P + v)
    split x v d P k i j =
        let i' = mul-le-mul_right P i in
        let j' = mul-le-mul_right P j in
        (omega (arith, i'), omega (arith, j'))

    go : ((a * n - v) + (v - a * n)) * P ≤ v → (a * n * P ≤ v * P + v) × (v * P ≤ a * n * P + v)
    go k =
        let x : a * n ≤ v + ((a * n - v) + (v - a * n)) = omega arith in
        let y : v ≤ a * n + ((a * n - v) + (v - a * n)) = omega arith in
        split (a * n) v ((a * n - v) + (v - a * n)) P k x y
ratio (negsuc k) a v P vp Q h = absurd (too_far (a * suc k) v P vp Q (rw e at h))
  where
    e : nat_abs (neg_ℤ (pos (a * suc k)) +ℤ neg_ℤ (pos v)) ≡ a * suc k + v
    e = ap nat_abs (sym (neg_ℤ-+ℤ (pos (a * suc k)) (pos v))) ∙ abs_neg (pos (a * suc k + v))

    too_far : (x v P : ℕ) → 0 < v → 1 < P → (x + v) * P ≤ v → ⊥
    too_far x v P vp Q h = let l = mul-le-mul_left (x + v) Q in omega (arith, l)

-- ---- chains of inequalities: x to n by way of w

pub chain : (x w q n a b g d t t' : ℕ) → 0 < a * g → x * a ≤ w * q * b → w * g ≤ n * d → d * b * t ≤ a * g * t'
    → x * t ≤ n * q * t'
chain x w q n a b g d t t' p h i j =
    let h' = mul-le-mul_right (g * t) h in
    let i' = mul-le-mul_right (q * b * t) i in
    let j' = mul-le-mul_left (n * q) j in
    le_of_mul-le-mul_right {k = a * g} (omega (arith, h', i', j')) p

pub chain_back : (n w q y a b g d t t' : ℕ) → 0 < a * g → n * a ≤ w * b → w * q * g ≤ y * d → d * b * t ≤ a * g * t'
    → n * q * t ≤ y * t'
chain_back n w q y a b g d t t' p h i j =
    let h' = mul-le-mul_right (q * g * t) h in
    let i' = mul-le-mul_right (b * t) i in
    let j' = mul-le-mul_left y j in
    le_of_mul-le-mul_right {k = a * g} (omega (arith, h', i', j')) p

pub lift : (r c g m a d q h s : ℕ) → r * (c * g) * m ≤ a * d * q * h → r * (s * c) * (g * m) ≤ s * a * q * (d * h)
lift r c g m a d q h s k = let k' = mul-le-mul_left s k in omega (arith, k')

pub lift-back : (r c g m a d q h s : ℕ) → a * d * q * h ≤ r * (c * g) * m → s * a * q * (d * h) ≤ r * (s * c) * (g * m)
lift-back r c g m a d q h s k = let k' = mul-le-mul_left s k in omega (arith, k')

pub less_one : (u w P a n : ℕ) → u * w * suc P ≤ a * n * suc P + u * w → w * (u * P) ≤ n * (a * suc P)
less_one u w P a n h = omega (arith, h)

pub more-one : (u w P a n : ℕ) → a * n * P ≤ u * w * P + u * w → n * (a * P) ≤ w * (u * suc P)
more-one u w P a n h = omega (arith, h)

-- ---- from one denominator to the series' own

swap : (x r y q b n : ℤ) → x *ℤ b ≡ n *ℤ y → (r *ℤ y +ℤ neg_ℤ (x *ℤ q)) *ℤ b ≡ y *ℤ (r *ℤ b +ℤ neg_ℤ (n *ℤ q))
swap x r y q b n h =
    right_distrib (r *ℤ y) (neg_ℤ (x *ℤ q)) b
    ∙ ap₂ ◌+ℤ◌ (around r y b)
    (neg_*ℤ (x *ℤ q) b ∙ ap neg_ℤ (across x q b ∙ ap (λ (v : ℤ). v *ℤ q) h ∙ around n y q) ∙ sym (*ℤ-neg y (n *ℤ q)))
    ∙ sym (left_distrib y (r *ℤ b) (neg_ℤ (n *ℤ q)))
  where
    around : (r y b : ℤ) → r *ℤ y *ℤ b ≡ y *ℤ (r *ℤ b)
    around r y b = simp ring

    across : (x q b : ℤ) → x *ℤ q *ℤ b ≡ x *ℤ b *ℤ q
    across x q b = simp ring

pub within : (x : ℤ) (r q b n y P : ℕ) → 0 < b → x *ℤ pos b ≡ pos n *ℤ pos y
    → nat_abs (pos (r * b) +ℤ neg_ℤ (pos (n * q))) * P ≤ n * q → nat_abs (pos r *ℤ pos y -ℤ x *ℤ pos q) * P ≤ nat_abs x * q
within x r q b n y P B h k =
    let e =
    sym (abs-mul (pos r *ℤ pos y -ℤ x *ℤ pos q) (pos b))
    ∙ ap nat_abs (swap x (pos r) (pos y) (pos q) (pos b) (pos n) h)
    ∙ abs-mul (pos y) (pos (r * b) +ℤ neg_ℤ (pos (n * q))) in
    let f = sym (abs-mul x (pos b)) ∙ ap nat_abs h in
    go (nat_abs (pos r *ℤ pos y -ℤ x *ℤ pos q)) (nat_abs (pos (r * b) +ℤ neg_ℤ (pos (n * q)))) (nat_abs x) e f k
  where
    go : (g d a : ℕ) → g * b ≡ y * d → a * b ≡ n * y → d * P ≤ n * q → g * P ≤ a * q
    go g d a e f k =
        let e' = ap (λ (v : ℕ). v * P) e in
        let f' = ap (λ (v : ℕ). v * q) f in
        let k' = mul-le-mul_left y k in
        le_of_mul-le-mul_right {k = b} (omega (arith, e', f', k')) B

near-low : (x y P d g : ℕ) → x + d ≡ y → g ≡ d → y * P ≤ x * P + y → g * P ≤ y
near-low x y P d g e f k =
    let e' = ap (λ (v : ℕ). v * P) e in
    let f' = ap (λ (v : ℕ). v * P) f in
    omega (arith, e', f', k)

near-high : (x y P d g : ℕ) → y + d ≡ x → g ≡ d → x * P ≤ y * P + y → g * P ≤ y
near-high x y P d g e f k =
    let e' = ap (λ (v : ℕ). v * P) e in
    let f' = ap (λ (v : ℕ). v * P) f in
    omega (arith, e', f', k)

pub near : (x y P : ℕ) → x * P ≤ y * P + y → y * P ≤ x * P + y → nat_abs (pos x +ℤ neg_ℤ (pos y)) * P ≤ y
near x y P h k =
    rw (distance x y)
    (decide (ltb x y)
    (λ t. let l = ltb-true x y t in near-low x y P (y - x) ((x - y) + (y - x)) (omega arith) (omega arith) k)
    (λ t. let l = ltb-false x y t in near-high x y P (x - y) ((x - y) + (y - x)) (omega arith) (omega arith) h))

pub plus_one : (x y P : ℕ) → x * P ≤ y * suc P → x * P ≤ y * P + y
plus_one x y P h = omega (arith, h)

pub minus_one : (x y P : ℕ) → y * P ≤ x * suc P → y * suc P ≤ x * suc P + y
minus_one x y P h = omega (arith, h)
