-- From the fields of a word to its text.
use Rattle.std.specs.Prelude.{ℕ, ◌+◌, ◌-◌, ◌*◌, ◌%◌, ◌^◌, ◌≤◌, ◌<◌, Bool, true, ◌++◌, ◌≡◌, eqb}
use Rattle.std.proofs.Common.{sym, ap, ◌∙◌, subst, arith, mul_assoc, mul_right_comm, mul-le-mul_right, one-mul, add-zero, pow-add, pow_pos, shl_exact}
use Rattle.std.proofs.Math.Nat.{eq_of_mul-eq-mul_right}
use borrow.Author.Tests.{eq-eqb, ne_eqb, lt-ltb, le-ltb}
use Rattle.lists.specs.Bytes.{bytes}
use Rattle.model_texts.specs.Number.{exponent_of}
use Rattle.model_texts.specs.Report.{when}
use Rattle.decimals_values.specs.Values.{binary-less}
use Rattle.decimals.specs.Nearest.{is-closest}
use Rattle.decimals.specs.Rounded.{Rounded, same_test, rounded-whole}
use Rattle.decimals.specs.Billionths.{IsBillionths}
use Rattle.model_decimals.specs.Value.{binary_at, units_at, minus_of, units_of}
use Rattle.model_decimals.specs.Text.{rounded_text, value_text, endless_text, bits_text, float_word_text}

-- both numbers of a fraction multiplied by t
pub rounded-times : {m n v : ℕ} {x : Bool} (t : ℕ) → 0 < t → Rounded m x n v → Rounded m x (n * t) (v * t)
rounded-times {m} {n} {v} t P a =
    let d : m * (v * t) ≡ m * v * t = sym (mul_assoc m v t) in
    let u = mul-le-mul_right t a.near.under in
    let o = mul-le-mul_right t a.near.over in
    record {
      near = record {
        under = omega arith;
        over = omega arith;
        tie_under = λ e. a.near.tie_under (eq_of_mul-eq-mul_right t P (m * v * 2) (n * 2 + v) (omega arith));
        tie_over = λ e. a.near.tie_over (eq_of_mul-eq-mul_right t P (n * 2) (m * v * 2 + v) (omega arith));
      };
      marked = a.marked ∙ same_test (m * v) n (m * (v * t)) (n * t) (λ e. d ∙ ap (λ (y : ℕ). y * t) e) (λ e. eq_of_mul-eq-mul_right t P (m * v) n (sym d ∙ e));
    }

-- b / 2 ^ k as a number of smallest floats
module _ (b e z : ℕ) where
  pub billionths-up : (k : ℕ) {w p : ℕ} {x : Bool} → k + (e - 1) ≡ z → IsBillionths (b * 1000000000) (2 ^ k) w p x
      → IsBillionths (b * 2 ^ (e - 1) * 1000000000) (2 ^ z) w p x
  billionths-up k {w} {p} {x} s n =
      let t = 2 ^ (e - 1) in
      let v : 2 ^ k * t ≡ 2 ^ z = sym (pow-add 2 k (e - 1)) ∙ ap (λ (y : ℕ). 2 ^ y) s in
      let a : b * 1000000000 * t ≡ b * t * 1000000000 = mul_right_comm b 1000000000 t in
      let r = rounded-times t (pow_pos (e - 1)) n.is in
      record {
        small = n.small;
        is = subst (λ (y : ℕ). Rounded (w * 1000000000 + p) x (b * t * 1000000000) y) v (subst (λ (y : ℕ). Rounded (w * 1000000000 + p) x y (2 ^ k * t)) a r);
      }

  -- a whole number
  pub billionths-whole : (j : ℕ) → e - 1 ≡ j + z → IsBillionths (b * 2 ^ (e - 1) * 1000000000) (2 ^ z) (b * 2 ^ j) 0 true
  billionths-whole j g =
      let m = b * 2 ^ j * 1000000000 in
      let a : m * 2 ^ z ≡ b * 2 ^ (e - 1) * 1000000000 =
      mul_right_comm (b * 2 ^ j) 1000000000 (2 ^ z)
      ∙ ap (λ (y : ℕ). y * 1000000000) (mul_assoc b (2 ^ j) (2 ^ z) ∙ ap (λ (y : ℕ). b * y) (sym (pow-add 2 j z) ∙ ap (λ (y : ℕ). 2 ^ y) (sym g))) in
      let r = rounded-times (2 ^ z) (pow_pos z) (rounded-whole m) in
      record {
        small = omega arith;
        is = rw (add-zero m) (subst (λ (y : ℕ). Rounded m true y (2 ^ z)) a (subst (λ (y : ℕ). Rounded m true (m * 2 ^ z) y) (one-mul (2 ^ z)) r));
      }

pub shifted : (b e : ℕ) → b < 9007199254740992 → e ≤ 1085 → b * 2 ^ (e - 1075) % 2 ^ 64 ≡ b * 2 ^ (e - 1075)
shifted b e l h = shl_exact {a = b} 53 (e - 1075) 64 l (omega arith)

-- ---- the text of a number that was rounded so
pub billionths-value : (s : Bool) (a c : ℕ) {w p : ℕ} {x : Bool} → 0 < c → IsBillionths (a * 1000000000) c w p x
    → value_text s a c ≡ rounded_text s (w * 1000000000 + p) x
billionths-value s a c P n =
    ap (λ (z : ℕ). rounded_text s z (eqb (z * c) (a * 1000000000))) (sym (is-closest P n.is.near))
    ∙ ap (rounded_text s _) (sym n.is.marked)

module _ (w : ℕ) where
  pub nan-text : exponent_of w ≡ 2047 → (w % 2 ^ 52 ≡ 0 → ⊥) → float_word_text w ≡ bytes "nan"
  unfolding float_word_text endless_text
  nan-text e f = rw (eq-eqb (exponent_of w) 2047 e, ne_eqb (w % 2 ^ 52) 0 f)

  pub inf-text : exponent_of w ≡ 2047 → w % 2 ^ 52 ≡ 0 → float_word_text w ≡ when (minus_of w) (bytes "-") ++ bytes "inf"
  unfolding float_word_text endless_text
  inf-text e f = rw (eq-eqb (exponent_of w) 2047 e, eq-eqb (w % 2 ^ 52) 0 f)

  pub bits_text_lem : (exponent_of w ≡ 2047 → ⊥) → 1085 < exponent_of w → float_word_text w ≡ bits_text w
  unfolding float_word_text
  bits_text_lem e f = rw (ne_eqb (exponent_of w) 2047 e, le-ltb (exponent_of w) 1086 f)

  pub number_text_lem : (exponent_of w ≡ 2047 → ⊥) → exponent_of w ≤ 1085 → float_word_text w ≡ value_text (minus_of w) (units_of w) (2 ^ 1074)
  unfolding float_word_text
  number_text_lem e f = rw (ne_eqb (exponent_of w) 2047 e, lt-ltb (exponent_of w) 1086 (omega arith))

  pub value_text_lem : {a p : ℕ} {x : Bool} → (exponent_of w ≡ 2047 → ⊥) → exponent_of w ≤ 1085
      → IsBillionths (units_at (exponent_of w) (w % 2 ^ 52) * 1000000000) (2 ^ 1074) a p x
      → float_word_text w ≡ rounded_text (minus_of w) (a * 1000000000 + p) x
  unfolding units_of
  value_text_lem e f n = number_text_lem e f ∙ billionths-value (minus_of w) (units_of w) (2 ^ 1074) (pow_pos 1074) n

-- ---- as the program has it
module _ (x t b : ℕ) (e : b ≡ binary_at x t) where
  pub number-whole : t < 4503599627370496 → 1075 < x → x ≤ 1085 → IsBillionths (units_at x t * 1000000000) (2 ^ 1074) (b * 2 ^ (x - 1075) % 2 ^ 64) 0 true
  number-whole l h k =
      rw (shifted b x (rw e (binary-less x t l)) k)
      (subst (λ (y : ℕ). IsBillionths (y * 2 ^ (x - 1) * 1000000000) (2 ^ 1074) (b * 2 ^ (x - 1075)) 0 true) e
      (billionths-whole b x 1074 (x - 1075) (omega arith)))

  pub number-less : t < 4503599627370496 → b < 9007199254740992
  number-less l = rw e (binary-less x t l)

  pub number-part : (k : ℕ) {w p : ℕ} {y : Bool} → k + (x - 1) ≡ 1074 → IsBillionths (b * 1000000000) (2 ^ k) w p y
      → IsBillionths (units_at x t * 1000000000) (2 ^ 1074) w p y
  number-part k {w} {p} {y} s n = subst (λ (z : ℕ). IsBillionths (z * 2 ^ (x - 1) * 1000000000) (2 ^ 1074) w p y) e (billionths-up b x 1074 k s n)
