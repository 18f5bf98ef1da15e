-- The turns of Horner's rule on floats, beside the same turns on exact fractions: each turn adds four roundings.
use Prim.Native.Nat.{ℕ, zero, suc, ◌+◌, ◌-◌, ◌*◌, ◌^◌, ◌≤◌}
use Rattle.std.proofs.Common.{le_trans, mul-le-mul_left, pow-suc, arith, lit≤, lit<}
use Rattle.std.proofs.Math.Nat.{pow-le-pow_left, pow-le-pow_right, one-le-pow}
use Rattle.std.specs.Prelude.{false, T, pos, Float}
use Rattle.std.specs.Float.{binary64}
use Rattle.std.specs.Float.Ieee.{of_bits, of_int}
use Rattle.std.specs.Float.Ieee.Exact.{HasValue}
use Rattle.std.specs.Float.Ieee.Back.{round_whole}
use Rattle.std.specs.Float.Ieee.Positive.{positive_of_value}
use Rattle.laws_rounding.specs.Operations.{Known, known-add, known-mul, known-div, known_wider}
use Rattle.model_exponential.specs.Head.{exp_turn, exp_turns}
use Rattle.model.specs.Readings.{one_f}
use Rattle.model.specs.Constructed.{whole_f}

-- the exact turns for t = T / c: the numerator and the denominator after m turns
unfoldable pub bottom : ℕ → ℕ → ℕ
bottom c zero = 1
bottom c (suc m) = 1 * (c * (71 - m) * bottom c m)

unfoldable pub top : ℕ → ℕ → ℕ → ℕ
unfolding bottom
top T c zero = 1
top T c (suc m) = 1 * (c * (71 - m) * bottom c m) + T * 1 * top T c m * 1

-- the roundings in m turns
unfoldable pub count : ℕ → ℕ
count zero = 0
count (suc m) = suc (suc (2 + count m))

one_known : (j : ℕ) → Known j one_f 1 1 1 1
unfolding of_bits
one_known j = record {
  is_positive = tt;
  approx = record { under = mul-le-mul_left 1 (pow-le-pow_left (lit≤ tt) j); over = mul-le-mul_left 1 (pow-le-pow_left (lit≤ tt) j) };
  low = lit≤ tt;
  high = lit≤ tt;
}

-- a whole number as a float
number : (k : ℕ) → k ≤ 71 → HasValue (whole_f k) false k 1
unfolding of_int
number k h = round_whole binary64 false k (le_trans h (lit≤ tt))

module _ (t : Float) (T' c : ℕ) (start : Known 1 t T' c 2 34) where
  one-turn : (j k b d Q : ℕ) (h : Float) → 1 ≤ k → k ≤ 71 → 1 ≤ Q → Q ≤ 512 ^ 71 → Known j h b d 2 Q
      → Known (suc (suc (2 + j))) (exp_turn t k h) (1 * (c * k * d) + T' * 1 * b * 1) (1 * (c * k * d)) 2 (Q * 512)
  one-turn j k b d Q h K L q1 q2 known =
      let n = number k L in
      let quotient =
      known-div (whole_f k) k 1 142 34 start (positive_of_value (whole_f k) k 1 n K) (lit< tt) n (omega arith) (omega arith) (lit≤ tt) (lit≤ tt) in
      let product = known-mul quotient known (lit≤ tt) (le_trans (mul-le-mul_left 68 q2) (lit≤ tt)) in
      let sum = known-add (one_known (suc (2 + j))) product (lit≤ tt) (le_trans (size Q q1) (le_trans (mul-le-mul_left 512 q2) (lit≤ tt))) in
      known_wider (Q * 512) sum (wide_lem Q q1)
    where
      size : (Q : ℕ) → 1 ≤ Q → 1 + 68 * Q * 2 ≤ 512 * Q
      size Q h = omega arith

      wide_lem : (Q : ℕ) → 1 ≤ Q → (1 + 68 * Q * 2) * 2 ≤ Q * 512
      wide_lem Q h = omega arith

  pub turns-known : (m : ℕ) → m ≤ 71 → Known (count m) (exp_turns t m) (top T' c m) (bottom c m) 2 (512 ^ m)
  unfolding exp_turns top bottom count
  turns-known zero h = known_wider 1 (two (one_known 0)) (lit≤ tt)
    where
      two : Known 0 one_f 1 1 1 1 → Known 0 one_f 1 1 2 1
      two k = record { is_positive = k.is_positive; approx = k.approx; low = let l = k.low in omega arith; high = k.high }
  turns-known (suc m) h =
      rw (pow-suc 512 m)
      (one-turn (count m) (71 - m) (top T' c m) (bottom c m) (512 ^ m) (exp_turns t m) (omega arith) (omega arith)
      (one-le-pow m 512 (lit< tt)) (pow-le-pow_right {n = 512} (lit< tt) {i = m} {j = 71} (omega arith))
      (turns-known m (omega arith)))
