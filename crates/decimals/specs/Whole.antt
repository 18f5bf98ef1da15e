-- A whole number of size 2 ^ 53 at most is printed as the report prints it (REFERENCE 9.1).
use Prim.Native.Nat.{ℕ, ◌+◌, ◌-◌, ◌*◌, ◌/◌, ◌%◌, ◌^◌, ◌≤◌}
use Rattle.std.proofs.Math.Bool.{true}
use Rattle.std.specs.Prelude.{false, ◌&&◌, ◌||◌, ◌≡◌, eqb, Float}
use mathlib.Core.List.{List, ◌++◌, append-nil}
use Rattle.std.proofs.Math.Path.{refl, sym, ap, subst}
use Rattle.std.proofs.Common.{◌∙◌, mul-one, mul_assoc, div-add-mod', pow-add, pow_pos}
use native.Mathlib.Omega.{arith}
use Rattle.std.proofs.Math.Nat.{add-zero}
use Rattle.std.proofs.Math.Dec.{leb}
use Rattle.std.specs.Float.Ieee.{to_bits}
use Rattle.std.specs.Float.{binary64}
use borrow.Author.Tests.{leb-true, eqb-true, ne_eqb}
use Rattle.lists.specs.Bytes.{bytes}
use Rattle.lists.specs.Test.{decide, and_left, and_right, or_right}
use Rattle.model_texts.specs.Number.{exponent_of, digits_of, behind_point, is_zero, is_top, is_scaled, is_whole_word}
use Rattle.model_texts.specs.Number.{size_of, signed_text, word_text, number_text}
use Rattle.model_texts.specs.Printed.{decimal}
use Rattle.model_texts.specs.Report.{when}
use Rattle.model_decimals.specs.Value.{minus_of, units_of}
use Rattle.model_decimals.specs.Text.{value_text, float_word_text, float_text}
use Rattle.decimals.specs.Billionths.{IsBillionths}
use Rattle.decimals.specs.Digits.{text-some, point-none}
use Rattle.decimals.specs.Word.{billionths-whole, billionths-value, number_text_lem}

-- a word that is printed in decimal: its number of smallest floats, and that it is no large one
record Whole (w : ℕ) : Type 0 where
  units : units_of w ≡ size_of w * 2 ^ 1074
  most : exponent_of w ≤ 1085

module _ (w : ℕ) where
  zero-whole : is_zero w ≡ true → Whole w
  unfolding units_of size_of
  zero-whole z =
      let e = eqb-true (w % 2 ^ 63) 0 z in
      let x : exponent_of w ≡ 0 = omega arith in
      let t : w % 2 ^ 52 ≡ 0 = omega arith in
      record { units = rw (z, x, t); most = omega arith }

  top-whole : is_zero w ≡ false → is_top w ≡ true → Whole w
  unfolding units_of size_of
  top-whole n z =
      let e = eqb-true (w % 2 ^ 63) (1076 * 2 ^ 52) z in
      let x : exponent_of w ≡ 1076 = omega arith in
      let t : w % 2 ^ 52 ≡ 0 = omega arith in
      record { units = rw (n, z, x, t); most = omega arith }

  scaled-whole : is_zero w ≡ false → is_top w ≡ false → is_scaled w ≡ true → Whole w
  unfolding units_of size_of is_scaled
  scaled-whole n m z =
      let in_range_lem = and_left (leb 1023 (exponent_of w) && leb (exponent_of w) 1075) (eqb (digits_of w % 2 ^ behind_point w) 0) z in
      let a : 1023 ≤ exponent_of w = leb-true _ _ (and_left (leb 1023 (exponent_of w)) (leb (exponent_of w) 1075) in_range_lem) in
      let b : exponent_of w ≤ 1075 = leb-true _ _ (and_right (leb 1023 (exponent_of w)) (leb (exponent_of w) 1075) in_range_lem) in
      let whole_is = and_right (leb 1023 (exponent_of w) && leb (exponent_of w) 1075) (eqb (digits_of w % 2 ^ behind_point w) 0) z in
      let r : digits_of w % 2 ^ behind_point w ≡ 0 = eqb-true _ _ whole_is in
      let q : ℕ = digits_of w / 2 ^ behind_point w in
      let d : digits_of w ≡ q * 2 ^ behind_point w =
      sym (div-add-mod' (digits_of w) (2 ^ behind_point w))
      ∙ (ap (λ (y : ℕ). q * 2 ^ behind_point w + y) r ∙ add-zero _) in
      let k : behind_point w + (exponent_of w - 1) ≡ 1074 = omega arith in
      let u : digits_of w * 2 ^ (exponent_of w - 1) ≡ q * 2 ^ 1074 =
      ap (λ (y : ℕ). y * 2 ^ (exponent_of w - 1)) d
      ∙ (mul_assoc q (2 ^ behind_point w) (2 ^ (exponent_of w - 1))
      ∙ (ap (λ (y : ℕ). q * y) (sym (pow-add 2 (behind_point w) (exponent_of w - 1))) ∙ ap (λ (y : ℕ). q * 2 ^ y) k)) in
      record { units = rw (n, m, ne_eqb (exponent_of w) 0 (λ e. omega (arith, e))) u; most = omega arith }

  is_whole : is_whole_word w ≡ true → Whole w
  unfolding is_whole_word
  is_whole h =
      decide (is_zero w) zero-whole (λ n.
      decide (is_top w) (top-whole n) (λ m.
      scaled-whole n m (or_right (is_top w) (is_scaled w) (or_right (is_zero w) (is_top w || is_scaled w) h n) m)))

  -- n of 2 ^ 1074 smallest floats are n
  value-whole : (n : ℕ) → value_text (minus_of w) (n * 2 ^ 1074) (2 ^ 1074) ≡ signed_text w n
  unfolding signed_text bytes
  value-whole n =
      let b = subst (λ (y : ℕ). IsBillionths (n * 2 ^ 1074 * 1000000000) (2 ^ 1074) y 0 true) (mul-one n) (billionths-whole n 1075 1074 0 refl) in
      billionths-value (minus_of w) (n * 2 ^ 1074) (2 ^ 1074) (pow_pos 1074) b
      ∙ (text-some (minus_of w) true n 0 (omega arith) refl
      ∙ ap (λ (l : List ℕ). when (minus_of w) (bytes "-") ++ l) (ap (λ (l : List ℕ). decimal n ++ l) (point-none 0 refl) ∙ append-nil (decimal n)))

  whole-word-same : is_whole_word w ≡ true → float_word_text w ≡ word_text w
  unfolding word_text
  whole-word-same h =
      let k = is_whole h in
      rw h (number_text_lem w (λ e. omega (arith, e, k.most)) k.most
      ∙ (ap (λ (u : ℕ). value_text (minus_of w) u (2 ^ 1074)) k.units ∙ value-whole (size_of w)))

pub whole_same : (x : Float) → is_whole_word (to_bits binary64 x) ≡ true → float_text x ≡ number_text x
unfolding float_text number_text
whole_same x h = whole-word-same (to_bits binary64 x) h
