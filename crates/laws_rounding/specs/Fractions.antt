-- Inequalities between fractions of natural numbers, multiplied out: `Le a c p b d q` says that a / c * p is at most
-- b / d * q. And what it is to be a number of roundings away from a fraction.
use Rattle.std.specs.Prelude.{ℕ, ◌+◌, ◌*◌, ◌^◌, ◌≤◌, ◌<◌}
use Rattle.std.proofs.Common.{mul_assoc, mul_comm, mul_left_comm, mul-le-mul, mul-le-mul_right, le_of_mul-le-mul_right, arith, pow-add}

ruleset ac = (mul_assoc, mul_comm, mul_left_comm)

abbrev pub Le : ℕ → ℕ → ℕ → ℕ → ℕ → ℕ → Type 0
Le a c p b d q = a * d * p ≤ b * c * q

pub le-times : (a c p b d q a' c' p' b' d' q' : ℕ) → Le a c p b d q → Le a' c' p' b' d' q'
    → Le (a * a') (c * c') (p * p') (b * b') (d * d') (q * q')
le-times a c p b d q a' c' p' b' d' q' h k = simp ac (simp ac at (mul-le-mul h k))

pub le-plus : (a c p b d q a' c' b' d' : ℕ) → Le a c p b d q → Le a' c' p b' d' q
    → Le (a * c' + a' * c) (c * c') p (b * d' + b' * d) (d * d') q
le-plus a c p b d q a' c' b' d' h k =
    let x = mul-le-mul_right (c' * d') h in
    let y = mul-le-mul_right (c * d) k in
    omega (arith, x, y)

pub le-through : (a c p b d q e f p' q' : ℕ) → 0 < d → Le a c p b d q → Le b d p' e f q' → Le a c (p * p') e f (q * q')
le-through a c p b d q e f p' q' D h k =
    let x = mul-le-mul_right (f * p') h in
    let y = mul-le-mul_right (c * q) k in
    le_of_mul-le-mul_right {k = d} (omega (arith, x, y)) D

-- ---- 2 ^ 53, and its neighbours
abbrev pub lo : ℕ
lo = 9007199254740991

abbrev pub mid : ℕ
mid = 9007199254740992

abbrev pub hi : ℕ
hi = 9007199254740993

-- a / c is within j roundings of b / d: between b / d * (1 - 2 ^ -53) ^ j and b / d * (1 + 2 ^ -53) ^ j
pub record Approx (j a c b d : ℕ) : Type 0 where
  pub under : Le a c (mid ^ j) b d (hi ^ j)
  pub over : Le b d (lo ^ j) a c (mid ^ j)

-- a relation that holds between powers of p and q
pow-times : (a c p b d q a' c' b' d' i j : ℕ) → Le a c (p ^ i) b d (q ^ i) → Le a' c' (p ^ j) b' d' (q ^ j)
    → Le (a * a') (c * c') (p ^ (i + j)) (b * b') (d * d') (q ^ (i + j))
pow-times a c p b d q a' c' b' d' i j h k =
    rw (pow-add p i j, pow-add q i j) (le-times a c (p ^ i) b d (q ^ i) a' c' (p ^ j) b' d' (q ^ j) h k)

pub approx-times : {i j a c b d a' c' b' d' : ℕ} → Approx i a c b d → Approx j a' c' b' d' → Approx (i + j) (a * a') (c * c') (b * b') (d * d')
approx-times {i} {j} {a} {c} {b} {d} {a'} {c'} {b'} {d'} h k = record {
  under = pow-times a c mid b d hi a' c' b' d' i j h.under k.under;
  over = pow-times b d lo a c mid b' d' a' c' i j h.over k.over;
}

pub approx-plus : {j a c b d a' c' b' d' : ℕ} → Approx j a c b d → Approx j a' c' b' d'
    → Approx j (a * c' + a' * c) (c * c') (b * d' + b' * d) (d * d')
approx-plus {j} {a} {c} {b} {d} {a'} {c'} {b'} {d'} h k = record {
  under = le-plus a c (mid ^ j) b d (hi ^ j) a' c' b' d' h.under k.under;
  over = le-plus b d (lo ^ j) a c (mid ^ j) b' d' a' c' h.over k.over;
}
