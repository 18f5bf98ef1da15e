-- A printed float takes at most 31 bytes: ~, -, 19 digits, a point, 9 digits.
use Rattle.std.specs.Prelude.{ℕ, zero, suc, ◌+◌, ◌-◌, ◌*◌, ◌/◌, ◌%◌, ◌^◌, ◌≤◌, ◌<◌, Bool, not, ◌&&◌, List, [], ◌∷◌, ◌≡◌, refl, ltb, eqb, length}
use Rattle.std.proofs.Common.{◌∙◌, arith, mul-le-mul, mul-le-mul_right, le_trans, length-append, pow_pos, pow-add, pow_mono, ltb-true}
use Rattle.lists.specs.Bytes.{bytes}
use Rattle.lists.specs.Table.{length-table}
use Rattle.lists.specs.Test.{decide, of-both}
use Rattle.lists.specs.Grow.{length_snoc}
use Rattle.model_texts.specs.Number.{exponent_of, hex_text}
use Rattle.model_texts.specs.Hex.{hex_digit}
use Rattle.model_texts.specs.Printed.{last_digit}
use Rattle.model_texts.specs.Report.{when}
use Rattle.sheet_text.specs.Decimal.{decimal-most}
use Rattle.decimals.specs.Nearest.{nearest-most, closest-nearest}
use Rattle.model_decimals.specs.Value.{binary_at, units_at, minus_of, units_of}
use Rattle.model_decimals.specs.Text.{billionths, is_exact, places, trimmed_places, point_text, rounded_text, endless_text, bits_text, float_word_text}
use Rattle.decimals_values.specs.Values.{binary-less}

pub places-length : (k n : ℕ) → length (places k n) ≡ k
unfolding places
places-length zero n = refl
places-length (suc k) n = length_snoc (places k (n / 10)) (last_digit n) ∙ omega (arith, places-length k (n / 10))

pub trimmed-length : (k n : ℕ) → length (trimmed_places k n) ≤ k
unfolding trimmed_places
trimmed-length zero n = omega arith
trimmed-length (suc k) n =
    of-both (λ (l : List ℕ). length l ≤ suc k) (eqb (n % 10) 0) (let h = trimmed-length k (n / 10) in omega arith) (omega (arith, places-length (suc k) n))

point-length : (n : ℕ) → length (point_text n) ≤ 10
unfolding point_text
point-length n = of-both (λ (l : List ℕ). length l ≤ 10) (eqb n 0) (omega arith) (let h = trimmed-length 9 n in omega arith)

when-length : (b : Bool) (x : ℕ) → length (when b (x ∷ [])) ≤ 1
when-length b x = of-both (λ (l : List ℕ). length l ≤ 1) b (omega arith) (omega arith)

rounded-length : (s : Bool) (m : ℕ) (x : Bool) → m / 1000000000 < 10 ^ 19 → length (rounded_text s m x) ≤ 31
unfolding rounded_text bytes
rounded-length s m x h =
    let p = point-length (m % 1000000000) in
    let d = decimal-most 19 (m / 1000000000) (omega arith) h (omega arith) in
    let a = when-length (not x) 126 in
    let b = when-length s 45 in
    of-both (λ (l : List ℕ). length l ≤ 31) (not x && eqb m 0)
    (of-both (λ (l : List ℕ). length l ≤ 31) s (omega arith) (omega arith))
    (simp length-append (omega arith))

-- ---- how large a number below 2 ^ 63 is in billionths
units-most : (x t z : ℕ) → t < 4503599627370496 → x ≤ z + 11 → units_at x t ≤ 9223372036854775808 * 2 ^ z
units-most x t z l h =
    let b = binary-less x t l in
    let p : 2 ^ (x - 1) ≤ 2 ^ (10 + z) = pow_mono (omega arith) in
    let q : 2 ^ (10 + z) ≡ 1024 * 2 ^ z = pow-add 2 10 z in
    le_trans (mul-le-mul (let c : binary_at x t ≤ 9007199254740992 = omega arith in c) p) (omega (arith, q))

billionths-most : (x t z : ℕ) → t < 4503599627370496 → x ≤ z + 11 → billionths (units_at x t) (2 ^ z) / 1000000000 < 10 ^ 19
billionths-most x t z l h =
    let u = units-most x t z l h in
    let m =
    nearest-most {e = 9223372036854775808000000000} (pow_pos z)
    (omega (arith, mul-le-mul_right 1000000000 u)) (closest-nearest (units_at x t * 1000000000) (2 ^ z) (pow_pos z)) in
    smaller (billionths (units_at x t) (2 ^ z)) m
  where
    smaller : (m : ℕ) → m ≤ 9223372036854775808000000000 → m / 1000000000 < 10 ^ 19
    smaller m h = omega arith

pub float-length : (w : ℕ) → length (float_word_text w) ≤ 31
unfolding float_word_text endless_text bits_text bytes hex_text units_of
float-length w =
    let b = when-length (minus_of w) 45 in
    let g = length-table (hex_digit w) 16 in
    of-both (λ (l : List ℕ). length l ≤ 31) (eqb (exponent_of w) 2047)
    (of-both (λ (l : List ℕ). length l ≤ 31) (eqb (w % 2 ^ 52) 0) (simp length-append (omega arith)) (omega arith))
    (decide (ltb (exponent_of w) 1086)
    (λ t. let l = ltb-true (exponent_of w) 1086 t in
    rw t (rounded-length (minus_of w) _ (is_exact (units_at (exponent_of w) (w % 2 ^ 52)) (2 ^ 1074))
    (billionths-most (exponent_of w) (w % 2 ^ 52) 1074 (omega arith) (omega arith))))
    (λ t. rw t (simp length-append (omega arith))))
