-- The chance at the face: bits that are kept are a float's own, a float that is handed over comes back, and a NaN is
-- out of range.
use Rattle.std.specs.Prelude.{ℕ, ◌/◌, ◌%◌, ◌≤◌, ◌<◌, Bool, true, false, not, ◌&&◌, ◌≡◌, refl, T, leb, eqb, Float}
use Rattle.std.proofs.Common.{sym, ap, subst, ◌∙◌, arith, leb-true, eqb-true, ne_eqb}
use Rattle.std.specs.Float.{nan, inf, binary64}
use Rattle.std.specs.Float.Ieee.{is_nan, nan_bits, fits, of_bits, to_bits}
use Rattle.std.specs.Float.Ieee.Bits.{of_bits-to_bits, to_bits-of_bits, nan_bits_is}
use Rattle.lists.specs.Test.{decide, or_right}
use Rattle.model_settings.specs.Store.{good_chance}

-- a float that is handed over is read back
pub chance-back : (x : Float) → T (fits binary64 x) → of_bits binary64 (to_bits binary64 x) ≡ x
chance-back x h = of_bits-to_bits binary64 x h

-- no NaN and no infinity is in range
pub nan-out : good_chance (to_bits binary64 nan) ≡ false
unfolding good_chance to_bits
nan-out = refl

pub inf-out : (s : Bool) → good_chance (to_bits binary64 (inf s)) ≡ false
unfolding good_chance to_bits
inf-out true = refl
inf-out false = refl

-- the bits of 0.0, -0.0 and 1.0 are in range
pub edges_in : (good_chance 0 ≡ true) ×
    ((good_chance 9223372036854775808 ≡ true) × (good_chance 4607182418800017408 ≡ true))
unfolding good_chance
edges_in = (refl, (refl, refl))

field-low : (n : ℕ) → n ≤ 4607182418800017408 → n % 9223372036854775808 / 4503599627370496 ≡ 2047 → ⊥
field-low n h e = omega arith

-- the field of the exponent is not that of a NaN
good-field : (n : ℕ) → good_chance n ≡ true → n % 9223372036854775808 / 4503599627370496 ≡ 2047 → ⊥
unfolding good_chance
good-field n h e =
    decide (leb n 4607182418800017408)
    (λ t. field-low n (leb-true n 4607182418800017408 t) e)
    (λ t. let z : n ≡ 9223372036854775808 = eqb-true n 9223372036854775808
    (or_right (leb n 4607182418800017408) (eqb n 9223372036854775808) h t) in omega arith)

good-small : (n : ℕ) → good_chance n ≡ true → n < 18446744073709551616
unfolding good_chance
good-small n h =
    decide (leb n 4607182418800017408)
    (λ t. omega (arith, leb-true n 4607182418800017408 t))
    (λ t. omega (
      arith,
      eqb-true n 9223372036854775808
          (or_right (leb n 4607182418800017408) (eqb n 9223372036854775808) h t),
    ))

good_no-nan : (n : ℕ) → good_chance n ≡ true → nan_bits binary64 n ≡ false
unfolding nan_bits
good_no-nan n h =
    ap (λ b. b && not (eqb (n % 4503599627370496) 0))
    (ne_eqb (n % 9223372036854775808 / 4503599627370496) 2047 (good-field n h))

-- kept bit for bit: the float that is told has the bits that were kept
pub chance-bits : (n : ℕ) → good_chance n ≡ true → to_bits binary64 (of_bits binary64 n) ≡ n
chance-bits n h =
    let e : is_nan (of_bits binary64 n) ≡ false = sym (nan_bits_is binary64 n) ∙ good_no-nan n h in
    to_bits-of_bits binary64 n (good-small n h) (subst (λ b. T (not b)) (sym e) tt)
