-- The first step: x + 9, for x from -8 to 8, is a positive float, one rounding away from the exact sum.
use Rattle.std.specs.Prelude.{◌≡◌, refl, Bool, true, false, ℕ, zero, suc, ◌+◌, ◌-◌, ◌*◌, ◌≤◌, ◌<◌, ℤ, pos, neg_ℤ, ◌+ℤ◌, ◌*ℤ◌, Float}
use Rattle.std.proofs.Common.{sym, ap, ap₂, ◌∙◌, mul-one, arith, lit≤, lt-ltb}
use Rattle.std.proofs.Math.IntN.{+ℤ_comm}
use Rattle.std.specs.Float.{fin, binary64}
use Rattle.std.specs.Float.Ieee.{up, down, round, sum, add, le, of_bits}
use Rattle.std.specs.Float.Ieee.Fits.{down_pos}
use Rattle.lists.specs.Test.{and_left, and_right}
use Rattle.model_exponential.specs.Head.{nine_f}
use Rattle.model_exponential.specs.Constant.{in_range}
use Rattle.laws_whole.specs.Whole.{signed}
use Rattle.laws_whole.specs.Exact.{minus_ge}
use Rattle.laws_sums.specs.Order.{at_most_lem}
use Rattle.laws_rounding.specs.Operations.{Known, rounded_lem, exact}

-- ---- the range

pub size_of : (s : Bool) (m : ℕ) (e : ℤ) → in_range (fin s m e) ≡ true → m * up e ≤ 8 * down e
unfolding in_range le
size_of false m e t =
    let h : m * up e * 1 ≤ 8 * down e =
    at_most_lem false (m * up e * 1) false (8 * down e) (and_right (le (fin true 1 (pos 3)) (fin false m e)) (le (fin false m e) (fin false 1 (pos 3))) t) in
    omega arith
size_of true m e t =
    let h : m * up e * 1 ≤ 8 * down e =
    at_most_lem true (8 * down e) true (m * up e * 1) (and_left (le (fin true 1 (pos 3)) (fin true m e)) (le (fin true m e) (fin false 1 (pos 3))) t) in
    omega arith

-- ---- the sum

add_nine-plus : (m : ℕ) (e : ℤ) → add binary64 (fin false m e) nine_f ≡ round binary64 false (m * up e + 9 * down e) (down e)
unfolding add of_bits
add_nine-plus m e = ap₂ (round binary64 false) (ap (λ (v : ℕ). v + 9 * down e) (mul-one (m * up e))) (mul-one (down e))

add_nine-minus : (m : ℕ) (e : ℤ) → m * up e * 1 < 9 * down e
    → add binary64 (fin true m e) nine_f ≡ round binary64 false (9 * down e - m * up e) (down e)
unfolding add of_bits sum
add_nine-minus m e h =
    rw (lt-ltb (m * up e * 1) (9 * down e) h)
    (ap₂ (round binary64 false) (ap (λ (v : ℕ). 9 * down e - v) (mul-one (m * up e))) (mul-one (down e)))

-- ---- what is known of it

known-sum : (t c : ℕ) → 0 < c → c ≤ t → t ≤ c * 17 → Known 1 (round binary64 false t c) t c 2 34
known-sum t c C l u = rounded_lem 0 t c t c 1 17 C (exact t c) (omega arith) u (lit≤ tt) (lit≤ tt)

-- the exact sum, t / down e, and what is known of the float
pub record Started (x : Float) (z : ℤ) (c : ℕ) : Type 0 where
  pub sum : ℕ
  pub is : pos sum ≡ z +ℤ pos 9 *ℤ pos c
  pub known : Known 1 (add binary64 x nine_f) sum c 2 34

pub started : (s : Bool) (m : ℕ) (e : ℤ) → in_range (fin s m e) ≡ true → Started (fin s m e) (signed s (m * up e)) (down e)
started false m e t = record {
  sum = m * up e + 9 * down e;
  is = refl;
  known =
      rw (add_nine-plus m e)
      (known-sum (m * up e + 9 * down e) (down e) (down_pos e) (omega arith) (omega (arith, size_of false m e t)));
}
started true m e t = record {
  sum = 9 * down e - m * up e;
  is = sym (+ℤ_comm (neg_ℤ (pos (m * up e))) (pos (9 * down e)) ∙ minus_ge (9 * down e) (m * up e) (omega (arith, size_of true m e t)));
  known =
      rw (add_nine-minus m e (omega (arith, size_of true m e t, down_pos e)))
      (known-sum (9 * down e - m * up e) (down e) (down_pos e) (omega (arith, size_of true m e t)) (omega arith));
}
