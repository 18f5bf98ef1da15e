-- The value of a float is its number of smallest floats; a value as another fraction; which floats are below 2 ^ 63.
use Rattle.std.specs.Prelude.{ℕ, zero, suc, ◌+◌, ◌-◌, ◌*◌, ◌%◌, ◌^◌, ◌≤◌, ◌<◌, Bool, true, false, cond, ◌≡◌, T, leb, eqb, Float}
use Rattle.std.proofs.Common.{sym, ap, ◌∙◌, subst, arith, mul_right_comm, mul-le-mul, mul-le-mul_right}
use Rattle.std.proofs.Common.{mul-lt-mul_of_pos_right, pow_pos, pow-add, pow_mono, eqb-true, ne_eqb, leb-true}
use Rattle.std.proofs.Common.{leb-false}
use Rattle.std.proofs.Math.Nat.{eq_of_mul-eq-mul_right}
use Rattle.std.proofs.Math.Pow.{field}
use Rattle.std.specs.Float.{nan, inf, fin, binary64}
use Rattle.std.specs.Float.Ieee.{up, down, of_fields, of_bits, to_bits, fits, odd}
use Rattle.std.specs.Float.Ieee.Bits.{of_bits-to_bits}
use Rattle.std.specs.Float.Ieee.Exact.{HasValue, odd_sign}
use Rattle.std.specs.Float.Ieee.Fits.{down_pos}
use Rattle.std.proofs.lemmas.Bool.{eqb-false}
use Rattle.lists.specs.Test.{decide, of-both}
use Rattle.model_texts.specs.Number.{exponent_of}
use Rattle.model_decimals.specs.Value.{binary_at, units_at, minus_of, units_of}

-- ---- the value of a word is its number of smallest floats
low-units : (t : ℕ) → t * 2 ^ 0 ≡ units_at 0 t
low-units t = omega arith

high-units : (x t : ℕ) → (2 ^ 52 + t) * 2 ^ x ≡ units_at (suc x) t
high-units x t = let e : suc x - 1 ≡ x = omega arith in rw (ne_eqb (suc x) 0 (λ z. omega (arith, z)), e)

fields_value : (s : Bool) (x t : ℕ) → x < 2047 → HasValue (of_fields binary64 s x t) s (units_at x t) (2 ^ 1074)
unfolding of_fields
fields_value s zero t b = subst (λ (y : ℕ). HasValue (odd 53 s t 0 1074) s y (2 ^ 1074)) (low-units t) (odd_sign 53 s t 0 1074)
fields_value s (suc x) t b =
    rw (ne_eqb (suc x) 2047 (λ z. omega (arith, z)))
    (subst (λ (y : ℕ). HasValue (odd 53 s (2 ^ 52 + t) x 1074) s y (2 ^ 1074)) (high-units x t) (odd_sign 53 s (2 ^ 52 + t) x 1074))

pub word_value : (w : ℕ) → exponent_of w < 2047 → HasValue (of_bits binary64 w) (minus_of w) (units_of w) (2 ^ 1074)
unfolding of_bits units_of
word_value w l =
    subst (λ (x : ℕ). HasValue (of_fields binary64 (minus_of w) x (w % 2 ^ 52)) (minus_of w) (units_at (exponent_of w) (w % 2 ^ 52)) (2 ^ 1074))
    (sym (field w 11 52))
    (fields_value (minus_of w) (exponent_of w) (w % 2 ^ 52) l)

-- ---- the same value as another fraction
pub has_same : (x : Float) (s : Bool) (a c b d : ℕ) → 0 < c → a * d ≡ b * c → HasValue x s a c → HasValue x s b d
has_same nan s a c b d P e h = h
has_same (inf t) s a c b d P e h = h
has_same (fin t m k) s a c b d P e h = (
  h.0,
  eq_of_mul-eq-mul_right c P (m * up k * d) (b * down k)
      (mul_right_comm (m * up k) d c
      ∙ (ap (λ (y : ℕ). y * d) h.1 ∙ (mul_right_comm a (down k) d ∙ (ap (λ (y : ℕ). y * down k) e ∙ mul_right_comm b c (down k))))),
)

-- and only the same, whatever sign is said of it
pub has-only : (x : Float) (s t : Bool) (a c b d : ℕ) → HasValue x s a c → HasValue x t b d → a * d ≡ b * c
has-only nan s t a c b d h g = absurd h
has-only (inf u) s t a c b d h g = absurd h
has-only (fin u m k) s t a c b d h g =
    eq_of_mul-eq-mul_right (down k) (down_pos k) (a * d) (b * c)
    (mul_right_comm a d (down k)
    ∙ (ap (λ (y : ℕ). y * d) (sym h.1) ∙ (mul_right_comm (m * up k) c d ∙ (ap (λ (y : ℕ). y * c) g.1 ∙ mul_right_comm b (down k) c))))

-- ---- which floats are printed in decimal
endless : (s : Bool) (t : ℕ) (u : Bool) (a c : ℕ) → HasValue (of_fields binary64 s 2047 t) u a c → ⊥
unfolding of_fields
endless s t u a c h = ends (eqb t 0) h
  where
    ends : (b : Bool) → HasValue (cond b (inf s) nan) u a c → ⊥
    ends true h = h
    ends false h = h

word-finite : (w : ℕ) (u : Bool) (a c : ℕ) → HasValue (of_bits binary64 w) u a c → exponent_of w < 2047
unfolding of_bits
word-finite w u a c h =
    decide (eqb (exponent_of w) 2047)
    (λ e. absurd (endless (minus_of w) (w % 2 ^ 52) u a c
    (subst (λ (x : ℕ). HasValue (of_fields binary64 (minus_of w) x (w % 2 ^ 52)) u a c) (field w 11 52 ∙ eqb-true (exponent_of w) 2047 e) h)))
    (λ e. let z = eqb-false (exponent_of w) 2047 e in omega arith)

-- a float that has a value
module _ (x : Float) (s : Bool) (a c : ℕ) (f : T (fits binary64 x)) (h : HasValue x s a c) where
  pub value-finite : exponent_of (to_bits binary64 x) < 2047
  value-finite = word-finite (to_bits binary64 x) s a c (rw (of_bits-to_bits binary64 x f) h)

  pub units-value : HasValue x (minus_of (to_bits binary64 x)) (units_of (to_bits binary64 x)) (2 ^ 1074)
  units-value = rw (of_bits-to_bits binary64 x f) at (word_value (to_bits binary64 x) value-finite)

  pub units-same : units_of (to_bits binary64 x) * c ≡ a * 2 ^ 1074
  units-same = has-only x (minus_of (to_bits binary64 x)) s (units_of (to_bits binary64 x)) (2 ^ 1074) a c units-value h

units-least : (x t z : ℕ) → z + 12 ≤ x → 9223372036854775808 * 2 ^ z ≤ units_at x t
units-least x t z h =
    let e = ne_eqb x 0 (λ y. omega (arith, y)) in
    let p : 2 ^ (11 + z) ≤ 2 ^ (x - 1) = pow_mono (omega arith) in
    let q : 2 ^ (11 + z) ≡ 2048 * 2 ^ z = pow-add 2 11 z in
    let m : 4503599627370496 * 2 ^ (11 + z) ≤ (4503599627370496 + t) * 2 ^ (x - 1) = mul-le-mul (omega arith) p in
    rw e (omega (arith, q, m))

not-less : (u a c z : ℕ) → 0 < z → u * c ≡ a * z → a < 9223372036854775808 * c → 9223372036854775808 * z ≤ u → ⊥
not-less u a c z Z e l h =
    let p : a * z < 9223372036854775808 * c * z = mul-lt-mul_of_pos_right {k = z} l Z in
    let q : 9223372036854775808 * z * c ≤ u * c = mul-le-mul_right c h in
    omega (arith, p, q, mul_right_comm 9223372036854775808 z c, e)

pub decimal-range : (x : Float) (s : Bool) (a c : ℕ) → T (fits binary64 x) → HasValue x s a c → a < 2 ^ 63 * c
    → exponent_of (to_bits binary64 x) ≤ 1085
unfolding units_of
decimal-range x s a c f h l =
    let w = to_bits binary64 x in
    decide (leb (exponent_of w) 1085)
    (λ t. leb-true (exponent_of w) 1085 t)
    (λ t.
    let k = leb-false (exponent_of w) 1085 t in
    absurd (not-less (units_of w) a c (2 ^ 1074) (pow_pos 1074) (units-same x s a c f h) l (units-least (exponent_of w) (w % 2 ^ 52) 1074 (omega arith))))

-- ---- a leading digit and 52 more
pub binary-less : (x t : ℕ) → t < 4503599627370496 → binary_at x t < 9007199254740992
binary-less x t l = of-both (λ (y : ℕ). y + t < 9007199254740992) (eqb x 0) (omega arith) (omega arith)
