-- Every whole number of size 2 ^ 53 at most is printed as itself: a minus where it has one, and its decimal digits.
use Rattle.std.specs.Prelude.{ℕ, ◌+◌, ◌-◌, ◌*◌, ◌/◌, ◌%◌, ◌^◌, ◌≤◌, ◌<◌, Bool, true, false, not, cond, ◌++◌, ◌≡◌, T, leb, ltb, eqb, Float}
use Rattle.std.proofs.Math.Path.{refl, ap}
use Rattle.std.proofs.Common.{◌∙◌, arith, mul-le-mul_right, pow-add, shl_lt}
use Rattle.std.proofs.Math.Nat.{mul-mod_left}
use Rattle.std.proofs.Math.Pow.{shl-shr}
use Rattle.std.specs.Float.{nan, inf, fin, binary64}
use Rattle.std.specs.Float.Ieee.{size, is_nan, of_bits, to_bits, fits}
use Rattle.std.specs.Float.Ieee.Back.{whole_unique}
use Rattle.std.specs.Float.Ieee.Bits.{of_bits-fits, to_bits-of_bits}
use Rattle.std.specs.Float.Ieee.Digits.{size-lt, size_reaches, size-le}
use Rattle.std.specs.Float.Ieee.Exact.{HasValue}
use borrow.Author.Tests.{le-leb, lt-leb, ltb-true, ltb-false, eq-eqb, ne_eqb, eqb-true, eqb-false}
use Rattle.lists.specs.Bytes.{bytes}
use Rattle.lists.specs.Test.{decide, of-both}
use Rattle.model_texts.specs.Printed.{decimal}
use Rattle.model_texts.specs.Report.{when}
use Rattle.model_texts.specs.Number.{exponent_of, digits_of, behind_point, is_zero, is_top, is_scaled, is_whole_word}
use Rattle.model_texts.specs.Number.{size_of, signed_text, word_text, number_text}
use Rattle.decimals_laws.specs.WholeValue.{word_value}
use Rattle.model_decimals.specs.Text.{float_text}
use Rattle.decimals.specs.Whole.{whole_same}

-- a word that is printed in decimal, with the sign s and the size n
record Word (s : Bool) (n : ℕ) : Type 0 where
  word : ℕ
  small : word < 2 ^ 64
  whole : is_whole_word word ≡ true
  says : size_of word ≡ n
  sign : leb (2 ^ 63) word ≡ s

zero_word : (s : Bool) → Word s 0
unfolding is_whole_word size_of
zero_word false = record { word = 0; small = omega arith; whole = refl; says = refl; sign = refl }
zero_word true = record { word = 2 ^ 63; small = omega arith; whole = refl; says = refl; sign = refl }

top-word : (s : Bool) → Word s (2 ^ 53)
unfolding is_whole_word size_of
top-word false = record { word = 1076 * 2 ^ 52; small = omega arith; whole = refl; says = refl; sign = refl }
top-word true = record { word = 2 ^ 63 + 1076 * 2 ^ 52; small = omega arith; whole = refl; says = refl; sign = refl }

-- 1 to below 2 ^ 53: the leading one is moved up to 2 ^ 52
module _ (n : ℕ) (some : 1 ≤ n) (less : n < 2 ^ 53) where
  abbrev e : ℕ
  e = size n - 1

  size-some : 1 ≤ size n
  size-some =
      decide (eqb (size n) 0)
      (λ t. let z = eqb-true (size n) 0 t in absurd (omega (arith, rw z at (size-lt n))))
      (λ t. let z = eqb-false (size n) 0 t in omega arith)

  e-most : e ≤ 52
  e-most = omega (arith, size-le n 53 less)

  abbrev digits : ℕ
  digits = n * 2 ^ (52 - e)

  digits-least : 2 ^ 52 ≤ digits
  digits-least =
      let k : e + (52 - e) ≡ 52 = omega (arith, e-most) in
      let low : 2 ^ e ≤ n = size_reaches n e (omega (arith, size-some)) in
      omega (arith, mul-le-mul_right (2 ^ (52 - e)) low, pow-add 2 e (52 - e), ap (λ (y : ℕ). 2 ^ y) k)

  digits-less : digits < 2 ^ 53
  digits-less =
      let k : size n + (52 - e) ≡ 53 = omega (arith, e-most, size-some) in
      omega (arith, shl_lt {a = n} (size n) (52 - e) (size-lt n), ap (λ (y : ℕ). 2 ^ y) k)

  abbrev fields : ℕ
  fields = (1023 + e) * 2 ^ 52 + (digits - 2 ^ 52)

  abbrev scaled_word : Bool → ℕ
  scaled_word s = cond s (2 ^ 63) 0 + fields

  module _ (s : Bool) where
    exponent : exponent_of (scaled_word s) ≡ 1023 + e
    exponent =
        of-both (λ (x : ℕ). exponent_of (x + fields) ≡ 1023 + e) s (omega (arith, e-most, digits-least, digits-less))
        (omega (arith, e-most, digits-least, digits-less))

    digits_are : digits_of (scaled_word s) ≡ digits
    digits_are = of-both (λ (x : ℕ). digits_of (x + fields) ≡ digits) s (omega (arith, digits-least, digits-less)) (omega (arith, digits-least, digits-less))

    unsigned : scaled_word s % 2 ^ 63 ≡ fields
    unsigned = of-both (λ (x : ℕ). (x + fields) % 2 ^ 63 ≡ fields) s (omega (arith, e-most, digits-less)) (omega (arith, e-most, digits-less))

    scaled_small : scaled_word s < 2 ^ 64
    scaled_small = of-both (λ (x : ℕ). x + fields < 2 ^ 64) s (omega (arith, e-most, digits-less)) (omega (arith, e-most, digits-less))

    behind : behind_point (scaled_word s) ≡ 52 - e
    behind = omega (arith, exponent, e-most)

    not-zero : is_zero (scaled_word s) ≡ false
    not-zero = ne_eqb (scaled_word s % 2 ^ 63) 0 (λ z. omega (arith, z, unsigned))

    not_top : is_top (scaled_word s) ≡ false
    not_top = ne_eqb (scaled_word s % 2 ^ 63) (1076 * 2 ^ 52) (λ z. omega (arith, z, unsigned, e-most, digits-least, digits-less))

    is_scaled_lem : is_scaled (scaled_word s) ≡ true
    unfolding is_scaled
    is_scaled_lem =
        let r : digits_of (scaled_word s) % 2 ^ behind_point (scaled_word s) ≡ 0 =
        ap (λ (y : ℕ). y % 2 ^ behind_point (scaled_word s)) digits_are ∙ (ap (λ (y : ℕ). digits % 2 ^ y) behind ∙ mul-mod_left n (2 ^ (52 - e))) in
        rw (
          le-leb 1023 (exponent_of (scaled_word s)) (omega (arith, exponent)),
          le-leb (exponent_of (scaled_word s)) 1075 (omega (arith, exponent, e-most)),
          eq-eqb _ _ r,
        )

    scaled-says : size_of (scaled_word s) ≡ n
    unfolding size_of
    scaled-says =
        let q : digits_of (scaled_word s) / 2 ^ behind_point (scaled_word s) ≡ n =
        ap (λ (y : ℕ). y / 2 ^ behind_point (scaled_word s)) digits_are ∙ (ap (λ (y : ℕ). digits / 2 ^ y) behind ∙ shl-shr n (52 - e)) in
        rw (not-zero, not_top) q

    scaled_sign : leb (2 ^ 63) (scaled_word s) ≡ s
    scaled_sign = by s
      where
        by : (s : Bool) → leb (2 ^ 63) (scaled_word s) ≡ s
        by false = lt-leb (2 ^ 63) (scaled_word false) (omega (arith, e-most, digits-least, digits-less))
        by true = le-leb (2 ^ 63) (scaled_word true) (omega arith)

    scaled_word_lem : Word s n
    unfolding is_whole_word
    scaled_word_lem = record {
      word = scaled_word s;
      small = scaled_small;
      whole = rw (not-zero, not_top, is_scaled_lem);
      says =
          scaled-says;
      sign = scaled_sign;
    }

word_of_lem : (s : Bool) (n : ℕ) → n ≤ 2 ^ 53 → Word s n
word_of_lem s n l =
    decide (eqb n 0)
    (λ t. rw (eqb-true n 0 t) (zero_word s))
    (λ t.
    let z = eqb-false n 0 t in
    decide (ltb n (2 ^ 53))
    (λ h. scaled_word_lem n (omega arith) (ltb-true n (2 ^ 53) h) s)
    (λ h. let q : n ≡ 2 ^ 53 = omega (arith, ltb-false n (2 ^ 53) h) in rw q (top-word s)))

-- a number is no NaN
not-nan : (x : Float) (s : Bool) (a c : ℕ) → HasValue x s a c → T (not (is_nan x))
unfolding is_nan
not-nan nan s a c h = absurd h
not-nan (inf t) s a c h = absurd h
not-nan (fin t m k) s a c h = tt

module _ (x : Float) (s : Bool) (n : ℕ) (f : T (fits binary64 x)) (h : HasValue x s n 1) (l : n ≤ 2 ^ 53) where
  abbrev w : Word s n
  w = word_of_lem s n l

  same-value : HasValue (of_bits binary64 w.word) s n 1
  same-value = rw (w.sign, w.says) at (word_value w.word w.whole)

  bits_are : to_bits binary64 x ≡ w.word
  bits_are =
      ap (to_bits binary64) (whole_unique binary64 x (of_bits binary64 w.word) s n f (of_bits-fits binary64 w.word) h same-value)
      ∙ to_bits-of_bits binary64 w.word w.small (not-nan (of_bits binary64 w.word) s n 1 same-value)

  pub whole_printed : float_text x ≡ when s (bytes "-") ++ decimal n
  unfolding number_text word_text signed_text
  whole_printed = whole_same x (rw bits_are w.whole) ∙ rw (bits_are, w.whole, w.says, w.sign) refl
