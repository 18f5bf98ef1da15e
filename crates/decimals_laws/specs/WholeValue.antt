-- Words of whole numbers: the float that such a word is has, as a number, the word's sign and size.
use Prim.Native.Nat.{ℕ, zero, suc, ◌+◌, ◌-◌, ◌*◌, ◌/◌, ◌%◌, ◌^◌, ◌≤◌, ◌<◌}
use Rattle.std.specs.Prelude.{Bool, true, ◌&&◌, ◌||◌, ◌≡◌, eqb, Float}
use Rattle.std.proofs.Math.Path.{refl, sym, ap}
use Rattle.std.proofs.Common.{◌∙◌, mul-one, mul_assoc, mul_right_comm, div-add-mod', pow-add, pow_pos}
use native.Mathlib.Omega.{arith}
use Rattle.std.proofs.Math.Nat.{eq_of_mul-eq-mul_right, add-zero}
use Rattle.std.proofs.Math.Dec.{leb}
use Rattle.std.proofs.Math.Pow.{field, mod-mod-pow}
use Rattle.std.specs.Float.{nan, inf, fin}
use Rattle.std.specs.Float.Ieee.{binary64, up, down, of_fields, of_bits, odd}
use Rattle.std.specs.Float.Ieee.Exact.{HasValue, odd_sign}
use borrow.Author.Tests.{leb-true, eqb-true, ne_eqb}
use Rattle.lists.specs.Test.{decide, and_left, and_right, or_right}
use Rattle.model_texts.specs.Number.{exponent_of, digits_of, behind_point, is_zero, is_top, is_scaled, is_whole_word, size_of}

-- a / c is n
has-whole : (x : Float) (s : Bool) (a n c : ℕ) → 0 < c → a ≡ n * c → HasValue x s a c → HasValue x s n 1
has-whole nan s a n c p e h = h
has-whole (inf t) s a n c p e h = h
has-whole (fin t m x) s a n c p e h =
    let d : m * up x * c ≡ n * down x * c = h.1 ∙ (ap (λ (y : ℕ). y * down x) e ∙ mul_right_comm n c (down x)) in
    (h.0, mul-one (m * up x) ∙ eq_of_mul-eq-mul_right c p (m * up x) (n * down x) d)

-- a float with a leading digit, by its fields: the exponent's x and the digits' t
fields_value : (s : Bool) (x t : ℕ) → 1 ≤ x → x < 2047 → HasValue (of_fields binary64 s x t) s ((2 ^ 52 + t) * 2 ^ (x - 1)) (2 ^ 1074)
unfolding of_fields
fields_value s zero t a b = absurd (omega arith)
fields_value s (suc x) t a b =
    let e : suc x - 1 ≡ x = omega arith in
    rw (e, ne_eqb (suc x) 2047 (λ z. omega (arith, z))) (odd_sign 53 s (2 ^ 52 + t) x 1074)

module _ (w : ℕ) where
  abbrev minus : Bool
  minus = leb (2 ^ 63) w

  abbrev Value : ℕ → Type 0
  Value n = HasValue (of_bits binary64 w) minus n 1

  low_same : w % 2 ^ 63 % 2 ^ 52 ≡ w % 2 ^ 52
  low_same = mod-mod-pow w 11 52

  by-fields : (x t n : ℕ) → w % 2 ^ 63 / 2 ^ 52 ≡ x → w % 2 ^ 52 ≡ t → HasValue (of_fields binary64 minus x t) minus n 1 → Value n
  unfolding of_bits
  by-fields x t n e f h = rw (e, f) h

  zero-value : is_zero w ≡ true → Value 0
  unfolding of_fields odd
  zero-value z =
      let e = eqb-true (w % 2 ^ 63) 0 z in
      by-fields 0 0 0 (ap (λ (y : ℕ). y / 2 ^ 52) e) (sym low_same ∙ ap (λ (y : ℕ). y % 2 ^ 52) e) (refl, refl)

  top-value : is_top w ≡ true → Value (2 ^ 53)
  top-value z =
      let e = eqb-true (w % 2 ^ 63) (1076 * 2 ^ 52) z in
      by-fields 1076 0 (2 ^ 53) (ap (λ (y : ℕ). y / 2 ^ 52) e) (sym low_same ∙ ap (λ (y : ℕ). y % 2 ^ 52) e)
      (has-whole (of_fields binary64 minus 1076 0) minus _ (2 ^ 53) (2 ^ 1074) (pow_pos 1074) refl (fields_value minus 1076 0 (omega arith) (omega arith)))

  scaled_value : is_scaled w ≡ true → Value (digits_of w / 2 ^ behind_point w)
  unfolding is_scaled
  scaled_value z =
      let in_range_lem = and_left (leb 1023 (exponent_of w) && leb (exponent_of w) 1075) (eqb (digits_of w % 2 ^ behind_point w) 0) z in
      let a : 1023 ≤ exponent_of w = leb-true _ _ (and_left (leb 1023 (exponent_of w)) (leb (exponent_of w) 1075) in_range_lem) in
      let b : exponent_of w ≤ 1075 = leb-true _ _ (and_right (leb 1023 (exponent_of w)) (leb (exponent_of w) 1075) in_range_lem) in
      let r : digits_of w % 2 ^ behind_point w ≡ 0 =
      eqb-true _ _ (and_right (leb 1023 (exponent_of w) && leb (exponent_of w) 1075)
      (eqb (digits_of w % 2 ^ behind_point w) 0) z) in
      let n : ℕ = digits_of w / 2 ^ behind_point w in
      let d : digits_of w ≡ n * 2 ^ behind_point w =
      sym (div-add-mod' (digits_of w) (2 ^ behind_point w))
      ∙ (ap (λ (y : ℕ). n * 2 ^ behind_point w + y) r ∙ add-zero _) in
      let k : behind_point w + (exponent_of w - 1) ≡ 1074 = omega arith in
      let m : digits_of w * 2 ^ (exponent_of w - 1) ≡ n * 2 ^ 1074 =
      ap (λ (y : ℕ). y * 2 ^ (exponent_of w - 1)) d
      ∙ (mul_assoc n (2 ^ behind_point w) (2 ^ (exponent_of w - 1))
      ∙ (ap (λ (y : ℕ). n * y) (sym (pow-add 2 (behind_point w) (exponent_of w - 1))) ∙ ap (λ (y : ℕ). n * 2 ^ y) k)) in
      by-fields (exponent_of w) (w % 2 ^ 52) n (field w 11 52) refl
      (has-whole (of_fields binary64 minus (exponent_of w) (w % 2 ^ 52)) minus _ n (2 ^ 1074) (pow_pos 1074) m
      (fields_value minus (exponent_of w) (w % 2 ^ 52) (omega arith) (omega arith)))

  -- a word that is printed in decimal
  pub word_value : is_whole_word w ≡ true → Value (size_of w)
  unfolding is_whole_word size_of
  word_value h =
      decide (is_zero w)
      (λ z. rw z (zero-value z))
      (λ z.
      decide (is_top w)
      (λ t. rw (z, t) (top-value t))
      (λ t. rw (z, t) (scaled_value (or_right (is_top w) (is_scaled w) (or_right (is_zero w) (is_top w || is_scaled w) h z) t))))
