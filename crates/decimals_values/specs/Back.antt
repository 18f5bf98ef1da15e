-- A float is the nearest float to its own value, and the only one that has it.
use Rattle.std.specs.Prelude.{ℕ, ◌+◌, ◌-◌, ◌*◌, ◌/◌, ◌%◌, ◌^◌, ◌≤◌, ◌<◌, Bool, cond, ◌≡◌, T, Float}
use Rattle.std.proofs.Common.{sym, ap, ◌∙◌, arith, mul_right_comm, mul-lt-mul_of_pos_right, lt_of_lt_of_le, pow_pos, pow-add, pow_mono}
use Rattle.std.specs.Float.{nan, inf, fin, binary64}
use Rattle.std.specs.Float.Ieee.{up, down, round, size, of_bits, to_bits, fits}
use Rattle.std.specs.Float.Ieee.Bits.{of_bits-to_bits}
use Rattle.std.specs.Float.Ieee.Exact.{HasValue, round_exact}
use Rattle.std.specs.Float.Ieee.Fits.{down_pos, round-fits}
use Rattle.std.specs.Float.Ieee.Nearest.{div_same}
use Rattle.model_texts.specs.Number.{exponent_of}
use Rattle.model_decimals.specs.Value.{binary_at, units_of}
use Rattle.decimals_values.specs.Values.{binary-less, value-finite, units-same}

-- ---- the bits follow from the value
unfoldable bits_of : Bool → ℕ → ℕ
bits_of s n = cond s (2 ^ 63) 0 + (size n - 53) * 2 ^ 52 + n / 2 ^ (size n - 53)

scaled : (m c a d l : ℕ) → m * c ≡ a * d → m * l * c ≡ a * l * d
scaled m c a d l e = mul_right_comm m l c ∙ (ap (λ (y : ℕ). y * l) e ∙ mul_right_comm a d l)

bits-by : (x : Float) (s : Bool) (a c : ℕ) → 0 < c → HasValue x s a c → to_bits binary64 x ≡ bits_of s (a * 2 ^ 1074 / c)
unfolding to_bits bits_of
bits-by nan s a c P h = absurd h
bits-by (inf t) s a c P h = absurd h
bits-by (fin t m e) s a c P h =
    rw (h.0, div_same (m * up e * 2 ^ 1074) (down e) (a * 2 ^ 1074) c (down_pos e) P (scaled (m * up e) c a (down e) (2 ^ 1074) h.1))

pub value_unique : (x y : Float) (s : Bool) (a c : ℕ) → T (fits binary64 x) → T (fits binary64 y) → 0 < c
    → HasValue x s a c → HasValue y s a c → x ≡ y
value_unique x y s a c f g P h k =
    sym (of_bits-to_bits binary64 x f) ∙ (ap (of_bits binary64) (bits-by x s a c P h ∙ sym (bits-by y s a c P k)) ∙ of_bits-to_bits binary64 y g)

-- ---- far below the overflow
not-over : (b x z : ℕ) → b < 9007199254740992 → x ≤ z → b * 2 ^ x < 2 ^ (53 + z)
not-over b x z l h =
    lt_of_lt_of_le (mul-lt-mul_of_pos_right {k = 2 ^ x} l (pow_pos x))
    (lt-le (2 ^ x) (2 ^ z) (2 ^ (53 + z)) (pow_mono h) (pow-add 2 53 z))
  where
    lt-le : (p q r : ℕ) → p ≤ q → r ≡ 9007199254740992 * q → 9007199254740992 * p ≤ r
    lt-le p q r h e = omega arith

pub read_back : (x : Float) (s : Bool) (a c : ℕ) → T (fits binary64 x) → 0 < c → HasValue x s a c → round binary64 s a c ≡ x
unfolding units_of
read_back x s a c f P h =
    let w = to_bits binary64 x in
    let l = value-finite x s a c f h in
    let b = binary_at (exponent_of w) (w % 2 ^ 52) in
    let k : b < 9007199254740992 = binary-less (exponent_of w) (w % 2 ^ 52) (omega arith) in
    let r = round_exact binary64 s a c b (exponent_of w - 1) P k (not-over b (exponent_of w - 1) 2045 k (omega arith)) (sym (units-same x s a c f h)) in
    value_unique (round binary64 s a c) x s a c (round-fits binary64 s a c) f P r h
