-- The error of one rounding to binary64: a fraction from 2 ^ -1022 to 2 ^ 1022 rounds to a value within 2 ^ -53 of it,
-- relative (`round-near`).
use Rattle.std.specs.Prelude.{◌≡◌, false, not, T, Float}
use Rattle.std.proofs.Common.{sym, ap, ◌∙◌, le_trans, le_of_eq, lt_of_lt_of_le, lt_of_le_of_lt, lt_irrefl}
use Rattle.std.proofs.Common.{zero-lt-suc, zero-mul, mul_assoc, mul_comm, mul_left_comm, mul-le-mul_left}
use Rattle.std.proofs.Common.{mul-le-mul_right, le_of_mul-le-mul_right, lt_of_mul-lt-mul_right, le-div_iff_mul-le}
use Rattle.std.proofs.Common.{div-add-mod', mod-lt, mul-pos, arith, leb→le, eqb→eq, lit≤, lit<, pow-add, pow_pos}
use Prim.Native.Nat.{ℕ, zero, suc, ◌+◌, ◌-◌, ◌*◌, ◌/◌, ◌%◌, ◌^◌, ◌≤◌, ◌<◌, compare, Ordering}
use Rattle.std.proofs.Math.Dec.{is_le, compare_is_eq, nleb→lt}
use Rattle.std.specs.Float.{binary64}
use Rattle.std.specs.Float.Ieee.{nearest, round, size}
use Rattle.std.specs.Float.Ieee.Digits.{size_reaches}
use Rattle.std.specs.Float.Ieee.Nearest.{closest}
use Rattle.std.specs.Float.Ieee.Order.{drop, kept}
use Rattle.std.specs.Float.Ieee.Exact.{HasValue}
use Rattle.std.specs.Float.Ieee.Scale.{grid, round_val, normal_of_fraction}
use Rattle.std.specs.Float.Ieee.Positive.{num, den, positive, value→cross, positive_of_value}
use Rattle.laws_rounding.specs.Fractions.{Le, lo, mid, hi}

-- ---- to the nearest whole number: off by half at most

abbrev Said : Ordering → ℕ → ℕ → Type 0
Said Ordering.lt a b = a ≤ b
Said Ordering.eq a b = a ≡ b
Said Ordering.gt a b = b ≤ a

said : (a b : ℕ) → Said (compare a b) a b
said a b = go (compare a b) (leb→le a b) (nleb→lt a b) (eqb→eq a b)
  where
    go : (o : Ordering) → (T (is_le o) → a ≤ b) → (T (not (is_le o)) → b < a) → (T (compare_is_eq o) → a ≡ b) → Said o a b
    go Ordering.lt h k e = h tt
    go Ordering.eq h k e = e tt
    go Ordering.gt h k e = let l = k tt in omega arith

-- x, n in units of u, is off by half a unit at most
abbrev Half : ℕ → ℕ → ℕ → Type 0
Half x n u = (x * u * 2 ≤ n * 2 + u) × (n * 2 ≤ x * u * 2 + u)

half : (q r n u : ℕ) (o : Ordering) → q * u + r ≡ n → r ≤ u → Said o (r * 2) u → Half (nearest q o) n u
half q r n u Ordering.lt e l s = (omega arith, omega arith)
half q r n u Ordering.eq e l s =
    let p : q % 2 ≤ 1 = omega arith in
    let m = mul-le-mul_right u p in
    (omega arith, omega arith)
half q r n u Ordering.gt e l s = (omega arith, omega arith)

closest_half : (n u : ℕ) → 0 < u → Half (closest n u) n u
closest_half n u p =
    half (n / u) (n % u) n u (compare (n % u * 2) u) (div-add-mod' n u) (let l = mod-lt n p in omega arith) (said (n % u * 2) u)

-- ---- in units of the format's smallest value, with all 53 digits in use

all_digits_lem : (z : ℕ) → 53 ≤ z → 52 + (z - 53) < z
all_digits_lem z h = omega arith

-- a unit of the last place is one part in 2 ^ 52 at most
last_place_lem : (n c : ℕ) → 0 < c → 53 ≤ size (n / c) → 4503599627370496 * (c * 2 ^ drop 53 n c) ≤ n
last_place_lem n c p h =
    let k = drop 53 n c in
    let r : 2 ^ (52 + k) ≤ n / c = size_reaches (n / c) (52 + k) (all_digits_lem (size (n / c)) h) in
    let s : 2 ^ (52 + k) * c ≤ n = (le-div_iff_mul-le p).0 r in
    let e : 2 ^ (52 + k) * c ≡ 4503599627370496 * (c * 2 ^ k) =
    ap (λ (x : ℕ). x * c) (pow-add 2 52 k) ∙ mul_assoc 4503599627370496 (2 ^ k) c
    ∙ ap (λ (x : ℕ). 4503599627370496 * x) (mul_comm (2 ^ k) c) in
    le_trans (le_of_eq (sym e)) s

-- g / l, for g units of 1 / l, with n = a * l
off : (g n c u P : ℕ) → P * u ≤ n → g * c * 2 ≤ n * 2 + u → g * c * (P * 2) ≤ n * (P * 2 + 1)
off g n c u P h k =
    let x = mul-le-mul_left P k in
    omega (arith, x)

off' : (g n c u P : ℕ) → 0 < P → P * u ≤ n → n * 2 ≤ g * c * 2 + u → n * (P * 2 - 1) ≤ g * c * (P * 2)
off' g n c u zero p h k = absurd (omega arith)
off' g n c u (suc P) p h k =
    let x = mul-le-mul_left (suc P) k in
    let e : suc P * 2 - 1 ≡ P * 2 + 1 = omega arith in
    rw e (omega (arith, x))

near-grid : (a c : ℕ) → 0 < c → 53 ≤ size (a * 2 ^ 1074 / c)
    → (grid binary64 a c * c * mid ≤ a * 2 ^ 1074 * hi) × (a * 2 ^ 1074 * lo ≤ grid binary64 a c * c * mid)
near-grid a c p h = go (a * 2 ^ 1074) h
  where
    go : (n : ℕ) → 53 ≤ size (n / c)
        → (kept 53 n c * 2 ^ drop 53 n c * c * mid ≤ n * hi) × (n * lo ≤ kept 53 n c * 2 ^ drop 53 n c * c * mid)
    go n g =
        let k = drop 53 n c in
        let u = c * 2 ^ k in
        let x = closest_half n u (mul-pos p (pow_pos k)) in
        let e : kept 53 n c * 2 ^ k * c ≡ kept 53 n c * u = simp (mul_assoc, mul_comm, mul_left_comm) in
        let l = last_place_lem n c p g in (
          off (kept 53 n c * 2 ^ k) n c u 4503599627370496 l (rw e x.0),
          off' (kept 53 n c * 2 ^ k) n c u 4503599627370496 (lit< tt) l (rw e x.1),
        )

-- ---- the rounded value

-- x is a / c rounded: positive, and within 2 ^ -53 of it
pub record Rounds (x : Float) (a c : ℕ) : Type 0 where
  pub is_positive : T (positive x)
  pub under : Le (num x) (den x) mid a c hi
  pub over : Le a c lo (num x) (den x) mid

-- with x = g / l
by_units : (x : Float) (a c g l : ℕ) → 0 < a → 0 < c → 0 < l → HasValue x false g l
    → g * c * mid ≤ a * l * hi → a * l * lo ≤ g * c * mid → Rounds x a c
by_units x a c g l A C L v h k =
    let e = value→cross x g l v in
    let p = mul-le-mul_right (den x) h in
    let q = mul-le-mul_right (den x) k in
    let r : num x * l * c * mid ≡ g * den x * c * mid = ap (λ (z : ℕ). z * c * mid) e in
    let above : 0 < g =
    lt_of_mul-lt-mul_right (c * mid)
    (lt_of_lt_of_le (rw zero-mul (mul-pos (mul-pos A L) (lit< tt))) (le_trans k (le_of_eq (mul_assoc g c mid)))) in
    record {
      is_positive = positive_of_value x g l v above;
      under = le_of_mul-le-mul_right {k = l} (omega (arith, p, r)) L;
      over = le_of_mul-le-mul_right {k = l} (omega (arith, q, r)) L;
    }

-- far below the overflow
not-over : (g c a l B : ℕ) → 0 < c → g * c * mid ≤ a * l * hi → a ≤ c * B → g ≤ l * B * 2
not-over g c a l B C h k =
    let x = mul-le-mul_right (l * hi) k in
    let z : c * (l * B) * hi ≤ c * (l * B) * (mid * 2) = mul-le-mul_left (c * (l * B)) (lit≤ tt) in
    le_of_mul-le-mul_right {k = c * mid} (omega (arith, x, h, z)) (mul-pos C (lit< tt))

pub round-near : (a c : ℕ) → 0 < c → c ≤ a * 2 ^ 1022 → a ≤ c * 2 ^ 1022 → Rounds (round binary64 false a c) a c
round-near a c C h k =
    let A : 0 < a = above a c C h in
    let d : 53 ≤ size (a * 2 ^ 1074 / c) = normal_of_fraction binary64 a c C (in_normal a c h) in
    let n = near-grid a c C d in
    by_units (round binary64 false a c) a c (grid binary64 a c) (2 ^ 1074) A C (pow_pos 1074)
    (round_val binary64 a c (lt_of_le_of_lt (not-over (grid binary64 a c) c a (2 ^ 1074) (2 ^ 1022) C n.0 k) (lit< tt)))
    n.0 n.1
  where
    above : (a c : ℕ) → 0 < c → c ≤ a * 2 ^ 1022 → 0 < a
    above zero c C h = absurd (lt_irrefl 0 (lt_of_lt_of_le C (rw zero-mul at h)))
    above (suc a) c C h = zero-lt-suc a

    in_normal : (a c : ℕ) → c ≤ a * 2 ^ 1022 → 2 ^ 52 * c ≤ a * 2 ^ 1074
    in_normal a c h =
        le_trans (mul-le-mul_left (2 ^ 52) h) (le_trans (le_of_eq (mul_left_comm (2 ^ 52) a (2 ^ 1022))) (mul-le-mul_left a (lit≤ tt)))
