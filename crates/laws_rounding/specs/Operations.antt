-- What is known of a float of a computation: it is positive, within j roundings of an exact fraction, and of a size.
-- Sum, product and quotient keep such knowledge, with one rounding more.
use Rattle.std.specs.Prelude.{◌≡◌, refl, ℕ, zero, suc, ◌+◌, ◌*◌, ◌^◌, ◌≤◌, ◌<◌, Bool, true, false, cond, T, eqb, Float}
use Rattle.std.proofs.Common.{ap, ◌∙◌, add-zero, le_trans, le_of_eq, lt_irrefl, lt_of_lt_of_le, zero-mul}
use Rattle.std.proofs.Common.{zero-lt-suc, mul_comm, mul-le-mul, mul-le-mul_left, mul-le-mul_right}
use Rattle.std.proofs.Common.{le_of_mul-le-mul_right, mul-pos, pow-suc, arith, ltb→lt, eqb→eq, lit≤, lit<}
use Rattle.std.proofs.Math.Nat.{pow-succ'}
use Rattle.std.specs.Float.{nan, inf, fin, binary64}
use Rattle.std.specs.Float.Ieee.{round, sum, add, mul, div}
use Rattle.std.specs.Float.Ieee.Exact.{HasValue}
use Rattle.std.specs.Float.Ieee.Scale.{round_same}
use Rattle.std.specs.Float.Ieee.Positive.{num, den, positive, den_pos, own_value, value→cross, value_pos, mul_at}
use Rattle.laws_rounding.specs.Fractions.{le-through, lo, mid, hi, Approx, approx-times, approx-plus}
use Rattle.laws_rounding.specs.Rounding.{Rounds, round-near}

-- x is b / d, within j roundings, and is from 1 / p to q
pub record Known (j : ℕ) (x : Float) (b d p q : ℕ) : Type 0 where
  pub is_positive : T (positive x)
  pub approx : Approx j (num x) (den x) b d
  pub low : den x ≤ num x * p
  pub high : num x ≤ den x * q

-- ---- one rounding more

double : (n c m h a d q : ℕ) → 0 < c → 0 < m → h ≤ m * 2 → n * c * m ≤ a * d * h → a ≤ c * q → n ≤ d * (q * 2)
double n c m h a d q C M two u k =
    let y = mul-le-mul_right (d * h) k in
    let z = mul-le-mul_left (d * q * c) two in
    le_of_mul-le-mul_right {k = c * m} (omega (arith, u, y, z)) (mul-pos C M)

module _ (x : Float) (a c : ℕ) (C : 0 < c) (r : Rounds x a c) where
  once_more : (j b d : ℕ) → Approx j a c b d → Approx (suc j) (num x) (den x) b d
  once_more j b d h = record {
    under = rw (pow-succ' mid j, pow-succ' hi j) (le-through (num x) (den x) mid a c hi b d (mid ^ j) (hi ^ j) C r.under h.under);
    over = rw (pow-suc lo j, pow-suc mid j) (le-through b d (lo ^ j) a c (mid ^ j) (num x) (den x) lo mid C h.over r.over);
  }

  twice-high : (q : ℕ) → a ≤ c * q → num x ≤ den x * (q * 2)
  twice-high q h = double (num x) c mid hi a (den x) q C (lit< tt) (lit≤ tt) r.under h

  twice-low : (p : ℕ) → 0 < a → c ≤ a * p → den x ≤ num x * (p * 2)
  twice-low p A h =
      double (den x) a lo mid c (num x) p A (lit< tt) (lit≤ tt) (rw (mul_comm (den x) a, mul_comm c (num x)) r.over) h

above : (a c p : ℕ) → 0 < c → c ≤ a * p → 0 < a
above zero c p C h = absurd (lt_irrefl 0 (lt_of_lt_of_le C (rw zero-mul at h)))
above (suc a) c p C h = zero-lt-suc a

pub rounded_lem : (j a c b d p q : ℕ) → 0 < c → Approx j a c b d → c ≤ a * p → a ≤ c * q → p ≤ 2 ^ 1022 → q ≤ 2 ^ 1022
    → Known (suc j) (round binary64 false a c) b d (p * 2) (q * 2)
rounded_lem j a c b d p q C h l u P Q =
    let x = round binary64 false a c in
    let r = round-near a c C (le_trans l (mul-le-mul_left a P)) (le_trans u (mul-le-mul_left c Q)) in
    record {
      is_positive = r.is_positive;
      approx = once_more x a c C r j b d h;
      low = twice-low x a c C r p (above a c p C l) l;
      high = twice-high x a c C r q u;
    }

-- ---- the operations on positive values, as roundings

add_at : (x y : Float) → T (positive x) → T (positive y)
    → add binary64 x y ≡ round binary64 false (num x * den y + num y * den x) (den x * den y)
unfolding add sum
add_at nan y p q = absurd p
add_at (inf s) y p q = absurd p
add_at (fin true m e) y p q = absurd p
add_at (fin false m e) nan p q = absurd q
add_at (fin false m e) (inf t) p q = absurd q
add_at (fin false m e) (fin true n d) p q = absurd q
add_at (fin false m e) (fin false n d) p q = refl

no_zero : {A : Type 0} (n : ℕ) (b : Bool) (x y : A) → 0 < n → (T b → n ≡ 0) → cond b x y ≡ y
no_zero n true x y h k = absurd (lt_irrefl 0 (rw (k tt) at h))
no_zero n false x y h k = refl

div_is : (x y : Float) → T (positive x) → T (positive y) → div binary64 x y ≡ round binary64 false (num x * den y) (num y * den x)
unfolding div
div_is nan y p q = absurd p
div_is (inf s) y p q = absurd p
div_is (fin true m e) y p q = absurd p
div_is (fin false m e) nan p q = absurd q
div_is (fin false m e) (inf t) p q = absurd q
div_is (fin false m e) (fin true n d) p q = absurd q
div_is (fin false m e) (fin false n d) p q = no_zero n (eqb n 0) _ _ (ltb→lt 0 n q) (eqb→eq n 0)

-- by any fraction that the divisor equals
div-at : (x y : Float) (b d : ℕ) → T (positive x) → T (positive y) → 0 < d → HasValue y false b d
    → div binary64 x y ≡ round binary64 false (num x * d) (den x * b)
div-at x y b d p q D v =
    let e = value→cross y b d v in
    let B = value_pos y b d q D v in
    div_is x y p q
    ∙ round_same binary64 false (num x * den y) (num y * den x) (num x * d) (den x * b) above_zero (mul-pos (den_pos x) B)
    (cross (num x) (den x) (num y) (den y) b d e)
  where
    cross : (a c n m b d : ℕ) → n * d ≡ b * m → a * m * (c * b) ≡ a * d * (n * c)
    cross a c n m b d e = let f = ap (λ (z : ℕ). a * c * z) e in omega (arith, f)

    above_zero : 0 < num y * den x
    above_zero = mul-pos (value_pos y (num y) (den y) q (den_pos y) (own_value y q)) (den_pos x)

-- ---- what they keep

pub known-add : {j b d p q b' d' p' q' : ℕ} {x y : Float} → Known j x b d p q → Known j y b' d' p' q' → p ≤ 2 ^ 1022 → q + q' ≤ 2 ^ 1022
    → Known (suc j) (add binary64 x y) (b * d' + b' * d) (d * d') (p * 2) ((q + q') * 2)
known-add {j} {b} {d} {p} {q} {b'} {d'} {p'} {q'} {x} {y} h k P Q =
    rw (add_at x y h.is_positive k.is_positive)
    (rounded_lem j (num x * den y + num y * den x) (den x * den y) (b * d' + b' * d) (d * d') p (q + q') (mul-pos (den_pos x) (den_pos y))
    (approx-plus h.approx k.approx)
    (lower (mul-le-mul_right (den y) h.low))
    (let u = mul-le-mul_right (den y) h.high in let v = mul-le-mul_right (den x) k.high in omega (arith, u, v))
    P Q)
  where
    lower : den x * den y ≤ num x * p * den y → den x * den y ≤ (num x * den y + num y * den x) * p
    lower u = omega (arith, u)

pub known-mul : {i j b d p q b' d' p' q' : ℕ} {x y : Float} → Known i x b d p q → Known j y b' d' p' q' → p * p' ≤ 2 ^ 1022 → q * q' ≤ 2 ^ 1022
    → Known (suc (i + j)) (mul binary64 x y) (b * b') (d * d') (p * p' * 2) (q * q' * 2)
known-mul {i} {j} {b} {d} {p} {q} {b'} {d'} {p'} {q'} {x} {y} h k P Q =
    rw (mul_at binary64 x y (num x) (den x) (num y) (den y) h.is_positive k.is_positive (den_pos x) (den_pos y)
    (own_value x h.is_positive) (own_value y k.is_positive))
    (rounded_lem (i + j) (num x * num y) (den x * den y) (b * b') (d * d') (p * p') (q * q') (mul-pos (den_pos x) (den_pos y))
    (approx-times h.approx k.approx)
    (let u = mul-le-mul h.low k.low in omega (arith, u))
    (let u = mul-le-mul h.high k.high in omega (arith, u))
    P Q)

-- a whole number, or another fraction that a float is exactly
pub exact : (a c : ℕ) → Approx 0 a c a c
exact a c = record { under = le_of_eq refl; over = le_of_eq refl }

pub known-div : {j b d p q : ℕ} {x : Float} (y : Float) (k m P Q : ℕ) → Known j x b d p q → T (positive y) → 0 < m → HasValue y false k m
    → p * k ≤ m * P → q * m ≤ k * Q → P ≤ 2 ^ 1022 → Q ≤ 2 ^ 1022
    → Known (suc j) (div binary64 x y) (b * m) (d * k) (P * 2) (Q * 2)
known-div {j} {b} {d} {p} {q} {x} y k m P Q h Y M v l u lp uq =
    let K = value_pos y k m Y M v in
    rw (div-at x y k m h.is_positive Y M v)
    (rounded_lem j (num x * m) (den x * k) (b * m) (d * k) P Q (mul-pos (den_pos x) K)
    (rw add-zero at (approx-times h.approx (exact m k)))
    (let s = mul-le-mul_right k h.low in let t = mul-le-mul_left (num x) l in omega (arith, s, t))
    (let s = mul-le-mul_right m h.high in let t = mul-le-mul_left (den x) u in omega (arith, s, t))
    lp uq)

pub known_wider : {j b d p q : ℕ} {x : Float} (q' : ℕ) → Known j x b d p q → q ≤ q' → Known j x b d p q'
known_wider {x} q' h k = record {
  is_positive = h.is_positive;
  approx = h.approx;
  low = h.low;
  high = le_trans h.high (mul-le-mul_left (den x) k);
}
