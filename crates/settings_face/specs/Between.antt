-- The bits that are in range are those of the floats from 0 to 1, as IEEE compares.
use Rattle.std.specs.Prelude.{ℕ, zero, suc, ◌+◌, ◌-◌, ◌*◌, ◌/◌, ◌%◌, ◌^◌, ◌≤◌, ◌<◌, Bool, ◌&&◌, ◌||◌, cond, ◌≡◌, T, ltb, Float}
use Rattle.std.proofs.Math.Bool.{true, false}
use Rattle.std.proofs.Common.{true≢false, ap, subst, ◌∙◌, mul-one, one-mul, zero-mul, mul-le-mul, mul-pos, le_trans}
use Rattle.std.proofs.Common.{le_refl, lt_of_lt_of_le, mul-lt-mul_of_pos_right, pow_pos, pow_mono, pow-add}
use Rattle.std.proofs.Math.Path.{refl, sym}
use native.Mathlib.Omega.{arith}
use Rattle.std.proofs.Math.Pow.{pow-lt}
use Rattle.std.proofs.Math.Dec.{leb, eqb}
use Rattle.std.specs.Float.{nan, inf, fin, binary64}
use Rattle.std.specs.Float.Ieee.{le, lt, eq, up, down, fits, of_bits, to_bits, of_fields, odd}
use Rattle.std.specs.Float.Ieee.Exact.{HasValue, odd_sign}
use Rattle.std.specs.Float.Ieee.Bits.{of_bits-to_bits, to_bits-lt}
use Rattle.std.specs.Float.Ieee.Fits.{down_pos}
use Rattle.std.specs.Float.Ieee.Order.{le_of_values}
use Rattle.std.specs.Float.Ieee.Positive.{values_of_le, positive_of_value, first_pos}
use borrow.Author.Tests.{ne_eqb, eq-eqb, eqb-true, eqb-false, ltb-true, ltb-false, le-leb, lt-leb}
use Rattle.lists.specs.Test.{decide}
use Rattle.model_settings.specs.Store.{good_chance}

abbrev pub zero_f : Float
zero_f = of_bits binary64 0

abbrev pub one_f : Float
one_f = of_bits binary64 4607182418800017408

T_true : (b : Bool) → T b → b ≡ true
T_true true t = refl
T_true false t = absurd t

true_T : (b : Bool) → b ≡ true → T b
true_T true e = tt
true_T false e = true≢false (sym e)

not_T : (b : Bool) → (T b → ⊥) → b ≡ false
not_T true h = absurd (h tt)
not_T false h = refl

one_value : HasValue one_f false 1 1
unfolding of_bits
one_value = (refl, refl)

zero-value : HasValue zero_f false 0 1
unfolding of_bits
zero-value = (refl, refl)

module _ (x : Float) (a c : ℕ) (C : 0 < c) where
  pub below_one : HasValue x false a c → a ≤ c → le x one_f ≡ true
  below_one v h = T_true _ (le_of_values x one_f a c 1 1 C (omega arith) v one_value (rw (mul-one a, one-mul c) h))

  pub above_zero : HasValue x false a c → le zero_f x ≡ true
  above_zero v = T_true _ (le_of_values zero_f x 0 1 a c (omega arith) C zero-value v (rw (zero-mul c) (omega arith)))

  pub above-one : HasValue x false a c → c < a → le x one_f ≡ false
  above-one v h =
      not_T _ (λ t. let k : a * 1 ≤ 1 * c = values_of_le x one_f a c 1 1 (positive_of_value x a c v (omega arith))
      (positive_of_value one_f 1 1 one_value (omega arith)) v one_value t in clash (rw (mul-one a, one-mul c) at k))
    where
      clash : a ≤ c → ⊥
      clash k = omega arith

-- a word's sign, exponent field and digits: the size in units of 2^-1074
pub subnormal : (s : Bool) (t : ℕ) → HasValue (of_fields binary64 s 0 t) s (t * 2 ^ 0) (2 ^ 1074)
unfolding of_fields
subnormal s t = odd_sign 53 s t 0 1074

pub normal :
    (s : Bool) (y t : ℕ) → (suc y ≡ 2047 → ⊥) → HasValue (of_fields binary64 s (suc y) t) s ((2 ^ 52 + t) * 2 ^ y)
    (2 ^ 1074)
unfolding of_fields
normal s y t n = rw (ne_eqb (suc y) 2047 n) (odd_sign 53 s (2 ^ 52 + t) y 1074)

-- sizes against 1, which is 2^1074 units
small_low : (y t : ℕ) → y ≤ 1021 → t < 2 ^ 52 → (2 ^ 52 + t) * 2 ^ y ≤ 2 ^ 1074
small_low y t h k =
    subst (λ (z : ℕ). (2 ^ 52 + t) * 2 ^ y ≤ z) (sym (pow-add 2 53 1021)) (mul-le-mul (digits t k) (pow_mono h))
  where
    digits : (t : ℕ) → t < 4503599627370496 → 4503599627370496 + t ≤ 9007199254740992
    digits t k = omega arith

large-high : (y t : ℕ) → 1023 ≤ y → 2 ^ 1074 < (2 ^ 52 + t) * 2 ^ y
large-high y t h =
    lt_of_lt_of_le (pow-lt {i = 1074} {j = 1075} (omega arith))
    (subst (λ (z : ℕ). z ≤ (2 ^ 52 + t) * 2 ^ y) (sym (pow-add 2 52 1023)) (mul-le-mul (more t) (pow_mono h)))
  where
    more : (t : ℕ) → 4503599627370496 ≤ 4503599627370496 + t
    more t = omega arith

large-one : (t : ℕ) → 0 < t → 2 ^ 1074 < (2 ^ 52 + t) * 2 ^ 1022
large-one t h =
    subst (λ (z : ℕ). z < (2 ^ 52 + t) * 2 ^ 1022) (sym (pow-add 2 52 1022))
    (mul-lt-mul_of_pos_right (more t h) (pow_pos 1022))
  where
    more : (t : ℕ) → 0 < t → 4503599627370496 < 4503599627370496 + t
    more t h = omega arith

-- a negative size is below zero
below-zero : (x : Float) (a c : ℕ) → 0 < c → 0 < a → HasValue x true a c → le zero_f x ≡ false
unfolding le lt eq of_bits
below-zero nan a c C A h = absurd h
below-zero (inf s) a c C A h = absurd h
below-zero (fin false m e) a c C A h = absurd (true≢false (sym h.0))
below-zero (fin true m e) a c C A h =
    let p : 0 < m * up e = first_pos (m * up e) c (subst (λ (z : ℕ). 0 < z) (sym h.1) (mul-pos A (down_pos e))) in
    apart (0 * down e) (m * up e * 1)
    (λ z. let q : 0 ≡ m * up e = sym (zero-mul (down e)) ∙ (z ∙ mul-one (m * up e)) in differ (m * up e) p q)
  where
    differ : (b : ℕ) → 0 < b → 0 ≡ b → ⊥
    differ b h e = omega arith

    apart : (b d : ℕ) → (b ≡ d → ⊥) → (eqb b d && (false || eqb b 0)) ≡ false
    apart b d n = rw (ne_eqb b d n)

-- from 0 to 1
unfoldable pub between : Float → Bool
between x = le zero_f x && le x one_f

between-both : (x : Float) → le zero_f x ≡ true → le x one_f ≡ true → between x ≡ true
unfolding between
between-both x a b = rw (a, b)

between-high : (x : Float) → le zero_f x ≡ true → le x one_f ≡ false → between x ≡ false
unfolding between
between-high x a b = rw (a, b)

between-low : (x : Float) → le zero_f x ≡ false → between x ≡ false
unfolding between
between-low x a = rw a

special : (s : Bool) (t : ℕ) → between (of_fields binary64 s 2047 t) ≡ false
unfolding between of_fields le lt eq of_bits
special s t = go s (eqb t 0)
  where
    go : (s b : Bool) → between (cond b (inf s) nan) ≡ false
    go true true = refl
    go false true = refl
    go true false = refl
    go false false = refl

minus-zero : between (of_fields binary64 true 0 0) ≡ eqb (0 * 4503599627370496 + 0) 0
unfolding between of_fields odd le lt eq of_bits
minus-zero = refl

-- the units of a word without its sign
module _ (t : ℕ) (small : t < 4503599627370496) where
  pub positive-between :
      (x : ℕ) → x < 2048 → between (of_fields binary64 false x t) ≡ leb (x * 4503599627370496 + t) 4607182418800017408
  positive-between zero l =
      between-both (of_fields binary64 false 0 t)
      (above_zero _ (t * 2 ^ 0) (2 ^ 1074) (pow_pos 1074) (subnormal false t))
      (below_one _ (t * 2 ^ 0) (2 ^ 1074) (pow_pos 1074) (subnormal false t)
      (le_trans (rw (mul-one t) (under t small)) (pow_mono {i = 52} {j = 1074} (omega arith))))
      ∙ sym (le-leb (0 * 4503599627370496 + t) 4607182418800017408 (omega arith))
    where
      under : (t : ℕ) → t < 4503599627370496 → t ≤ 4503599627370496
      under t h = omega arith
  positive-between (suc y) l =
      decide (eqb (suc y) 2047)
      (λ e. let z = eqb-true (suc y) 2047 e in subst
      (λ (k : ℕ). between (of_fields binary64 false k t) ≡ leb (k * 4503599627370496 + t) 4607182418800017408) (sym z)
      (special false t ∙ sym (lt-leb (2047 * 4503599627370496 + t) 4607182418800017408 (omega arith))))
      (λ e.
      let n = eqb-false (suc y) 2047 e in
      let v = normal false y t n in
      let x : Float = of_fields binary64 false (suc y) t in
      let a : ℕ = (2 ^ 52 + t) * 2 ^ y in
      let up0 = above_zero x a (2 ^ 1074) (pow_pos 1074) v in
      decide (ltb y 1022)
      (λ d.
      between-both x up0 (below_one x a (2 ^ 1074) (pow_pos 1074) v
      (small_low y t (within y (ltb-true y 1022 d)) small))
      ∙ sym (le-leb (suc y * 4503599627370496 + t) 4607182418800017408 (low_sum y t (ltb-true y 1022 d) small)))
      (λ d.
      decide (ltb 1022 y)
      (λ f.
      between-high x up0 (above-one x a (2 ^ 1074) (pow_pos 1074) v (large-high y t (beyond y (ltb-true 1022 y f))))
      ∙ sym (lt-leb (suc y * 4503599627370496 + t) 4607182418800017408 (high_sum y t (ltb-true 1022 y f))))
      (λ f.
      let q : y ≡ 1022 = same y (ltb-false y 1022 d) (ltb-false 1022 y f) in
      subst (λ (k : ℕ). between (of_fields binary64 false (suc k) t) ≡ leb
      (suc k * 4503599627370496 + t) 4607182418800017408) (sym q) at_one)))
    where
      within : (y : ℕ) → y < 1022 → y ≤ 1021
      within y h = omega arith

      beyond : (y : ℕ) → 1022 < y → 1023 ≤ y
      beyond y h = omega arith

      same : (y : ℕ) → 1022 ≤ y → y ≤ 1022 → y ≡ 1022
      same y a b = omega arith

      low_sum : (y t : ℕ) → y < 1022 → t < 4503599627370496 → suc y * 4503599627370496 + t ≤ 4607182418800017408
      low_sum y t a b = omega arith

      high_sum : (y t : ℕ) → 1022 < y → 4607182418800017408 < suc y * 4503599627370496 + t
      high_sum y t a = omega arith

      at_one : between (of_fields binary64 false 1023 t) ≡ leb (1023 * 4503599627370496 + t) 4607182418800017408
      at_one =
          let v = normal false 1022 t (λ e. omega arith) in
          let x : Float = of_fields binary64 false 1023 t in
          let a : ℕ = (2 ^ 52 + t) * 2 ^ 1022 in
          let up0 = above_zero x a (2 ^ 1074) (pow_pos 1074) v in
          decide (ltb 0 t)
          (λ d. between-high x up0 (above-one x a (2 ^ 1074) (pow_pos 1074) v (large-one t (ltb-true 0 t d))) ∙ sym
          (lt-leb (1023 * 4503599627370496 + t) 4607182418800017408 (omega (arith, ltb-true 0 t d))))
          (λ d.
          let z : t ≡ 0 = omega (arith, ltb-false 0 t d) in
          between-both x up0 (below_one x a (2 ^ 1074) (pow_pos 1074) v
          (subst (λ (k : ℕ). (2 ^ 52 + k) * 2 ^ 1022 ≤ 2 ^ 1074) (sym z) (le_refl _)))
          ∙ sym (le-leb (1023 * 4503599627370496 + t) 4607182418800017408 (omega arith)))

  -- with the sign set, -0.0 alone
  pub negative-between : (x : ℕ) → x < 2048 → between (of_fields binary64 true x t) ≡ eqb (x * 4503599627370496 + t) 0
  negative-between zero l =
      decide (ltb 0 t)
      (λ d.
      let h = ltb-true 0 t d in
      between-low (of_fields binary64 true 0 t)
      (below-zero _ (t * 2 ^ 0) (2 ^ 1074) (pow_pos 1074) (rw (mul-one t) h) (subnormal true t))
      ∙ sym (ne_eqb (0 * 4503599627370496 + t) 0 (λ e. omega arith)))
      (λ d. let z : t ≡ 0 = omega (arith, ltb-false 0 t d) in subst
      (λ (k : ℕ). between (of_fields binary64 true 0 k) ≡ eqb (0 * 4503599627370496 + k) 0) (sym z) minus-zero)
  negative-between (suc y) l =
      let far : (suc y * 4503599627370496 + t ≡ 0 → ⊥) = λ e. omega arith in
      decide (eqb (suc y) 2047)
      (λ e. subst (λ (k : ℕ). between (of_fields binary64 true k t) ≡ false) (sym (eqb-true (suc y) 2047 e))
      (special true t) ∙ sym (ne_eqb (suc y * 4503599627370496 + t) 0 far))
      (λ e.
      between-low (of_fields binary64 true (suc y) t)
      (below-zero _ ((2 ^ 52 + t) * 2 ^ y) (2 ^ 1074) (pow_pos 1074) (mul-pos (some t) (pow_pos y))
      (normal true y t (eqb-false (suc y) 2047 e)))
      ∙ sym (ne_eqb (suc y * 4503599627370496 + t) 0 far))
    where
      some : (t : ℕ) → 0 < 4503599627370496 + t
      some t = omega arith

-- the words in range are the floats from 0 to 1
module _ (n : ℕ) (l : n < 18446744073709551616) where
  unsigned : n < 9223372036854775808 → between (of_bits binary64 n) ≡ good_chance n
  unfolding of_bits good_chance
  unsigned h =
      rw (lt-leb 9223372036854775808 n h, ne_eqb n 9223372036854775808 (λ e. omega arith))
      (positive-between (n % 4503599627370496) (omega arith) (n % 9223372036854775808 / 4503599627370496)
      (omega arith)
      ∙ (ap (λ (k : ℕ). leb k 4607182418800017408)
      (let e : n % 9223372036854775808 / 4503599627370496 * 4503599627370496 + n % 4503599627370496 ≡ n = omega arith in e)
      ∙ whole (leb n 4607182418800017408)))
    where
      whole : (b : Bool) → b ≡ (b || false)
      whole true = refl
      whole false = refl

  signed : 9223372036854775808 ≤ n → between (of_bits binary64 n) ≡ good_chance n
  unfolding of_bits good_chance
  signed h =
      rw (le-leb 9223372036854775808 n h, lt-leb n 4607182418800017408 (omega arith))
      (negative-between (n % 4503599627370496) (omega arith) (n % 9223372036854775808 / 4503599627370496)
      (omega arith)
      ∙ (ap (λ (k : ℕ). eqb k 0)
      (let e : n % 9223372036854775808 / 4503599627370496 * 4503599627370496 + n % 4503599627370496 ≡ n - 9223372036854775808 = omega arith in
      e)
      ∙ shift))
    where
      shift : eqb (n - 9223372036854775808) 0 ≡ eqb n 9223372036854775808
      shift =
          decide (eqb n 9223372036854775808)
          (λ t. let e = eqb-true n 9223372036854775808 t in eq-eqb (n - 9223372036854775808) 0 (omega arith) ∙ sym t)
          (λ t. let e = eqb-false n 9223372036854775808 t in ne_eqb (n - 9223372036854775808) 0 (λ z. e (omega arith))
          ∙ sym t)

  pub good-between : between (of_bits binary64 n) ≡ good_chance n
  good-between =
      decide (ltb n 9223372036854775808) (λ t. unsigned (ltb-true n 9223372036854775808 t))
      (λ t. signed (ltb-false n 9223372036854775808 t))

-- a chance that is handed over is in range exactly where it is from 0 to 1: both zeros and 1.0 are, a NaN is not
pub chance-between : (x : Float) → T (fits binary64 x) → good_chance (to_bits binary64 x) ≡ between x
chance-between x h =
    sym (good-between (to_bits binary64 x) (to_bits-lt binary64 x h)) ∙ ap between (of_bits-to_bits binary64 x h)
