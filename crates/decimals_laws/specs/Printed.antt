-- What was printed of a float without a mark, and with no minus, is read as that float, where it has at most 15 digits.
use Prim.Native.Nat.{ℕ, zero, suc, ◌+◌, ◌-◌, ◌*◌, ◌/◌, ◌%◌, ◌^◌, ◌≤◌, ◌<◌}
use Rattle.std.specs.Prelude.{Some, Bool, true, ◌&&◌, ◌≡◌, refl, T, ltb, eqb, Float}
use Rattle.std.proofs.Math.Bool.{false}
use Rattle.std.proofs.Common.{true≢false, ◌∙◌, pow-suc}
use mathlib.Core.List.{List, [], ◌∷◌, ◌++◌, append-nil}
use Rattle.std.proofs.Math.Path.{sym, ap}
use native.Mathlib.Omega.{arith}
use Rattle.std.proofs.Math.ListN.{length}
use Rattle.std.specs.Float.Ieee.{binary64, round, fits}
use Rattle.std.specs.Float.Ieee.Exact.{HasValue}
use borrow.Author.Tests.{le-leb, leb-true, eqb-true, eqb-false, lt-ltb, ltb-true}
use Rattle.lists.specs.Test.{decide}
use Rattle.lists.specs.Grow.{length_snoc}
use Rattle.model_texts.specs.Printed.{last_digit, digits, decimal}
use Rattle.model_decimals.specs.Text.{places, trimmed_places, point_text, rounded_text}
use Rattle.lists.specs.Bytes.{bytes}
use Rattle.decimals.specs.Long.{places-length, trimmed-length}
use Rattle.decimals_values.specs.Values.{has_same}
use Rattle.decimals_values.specs.Back.{read_back}
use Rattle.decimals.specs.Says.{Says}
use Rattle.model_decimals.specs.Typed.{is_digit, all_digits, some_digits, significant, digits_value, read_text}
use Rattle.decimals_reading.specs.Significant.{value-least, value_append, significant-few}
use Rattle.decimals_reading.specs.Exactly.{digits_append, some-all}
use Rattle.decimals_reading.specs.Right.{pointed, read-joined}

-- ---- a digit at the end
number_snoc : (t : List ℕ) (n b : ℕ) → digits_value n (t ++ (b ∷ [])) ≡ 10 * digits_value n t + (b - 48)
unfolding digits_value
number_snoc [] n b = refl
number_snoc (x ∷ t) n b = number_snoc t (10 * n + (x - 48)) b

digits_snoc : (t : List ℕ) (b : ℕ) → all_digits t ≡ true → is_digit b ≡ true → all_digits (t ++ (b ∷ [])) ≡ true
unfolding all_digits
digits_snoc [] b d e = rw e
digits_snoc (x ∷ t) b d e = both (is_digit x) (all_digits t) (all_digits (t ++ (b ∷ []))) d (λ h. digits_snoc t b h e)
  where
    both : (a b c : Bool) → (a && b) ≡ true → (b ≡ true → c ≡ true) → (a && c) ≡ true
    both true b c h f = f h
    both false b c h f = h

last-is : (n : ℕ) → is_digit (last_digit n) ≡ true
last-is n = rw (le-leb 48 (last_digit n) (omega arith), le-leb (last_digit n) 57 (omega arith))

-- ---- the digits behind the point
places-digits : (k n : ℕ) → all_digits (places k n) ≡ true
unfolding places all_digits
places-digits zero n = refl
places-digits (suc k) n = digits_snoc (places k (n / 10)) (last_digit n) (places-digits k (n / 10)) (last-is n)

places-number : (k a p : ℕ) → p < 10 ^ k → digits_value a (places k p) ≡ a * 10 ^ k + p
unfolding places digits_value
places-number zero a p h = omega arith
places-number (suc k) a p h =
    let e = pow-suc 10 k in
    number_snoc (places k (p / 10)) a (last_digit p)
    ∙ last_step_lem (digits_value a (places k (p / 10))) (10 ^ k) (10 ^ suc k) (places-number k a (p / 10) (omega arith)) e
  where
    last_step_lem : (n q r : ℕ) → n ≡ a * q + p / 10 → r ≡ q * 10 → 10 * n + (last_digit p - 48) ≡ a * r + p
    last_step_lem n q r h e = rw (h, e) (omega arith)

trimmed-digits : (k n : ℕ) → all_digits (trimmed_places k n) ≡ true
unfolding trimmed_places all_digits
trimmed-digits zero n = refl
trimmed-digits (suc k) n = decide (eqb (n % 10) 0) (λ t. rw t (trimmed-digits k (n / 10))) (λ t. rw t (places-digits (suc k) n))

trimmed-number : (k a p : ℕ) → p < 10 ^ k → digits_value a (trimmed_places k p) * 10 ^ k ≡ (a * 10 ^ k + p) * 10 ^ length (trimmed_places k p)
unfolding trimmed_places digits_value
trimmed-number zero a p h = omega arith
trimmed-number (suc k) a p h =
    let e = pow-suc 10 k in
    decide (eqb (p % 10) 0)
    (λ t.
    let z = eqb-true (p % 10) 0 t in
    rw t (ten-more (digits_value a (trimmed_places k (p / 10))) (10 ^ k) (10 ^ suc k) (10 ^ length (trimmed_places k (p / 10))) e z
    (trimmed-number k a (p / 10) (omega arith))))
    (λ t. rw (t, places-number (suc k) a p h, places-length (suc k) p))
  where
    ten-more : (n q r l : ℕ) → r ≡ q * 10 → p % 10 ≡ 0 → n * q ≡ (a * q + p / 10) * l → n * r ≡ (a * r + p) * l
    ten-more n q r l e z h =
        let d : a * r + p ≡ (a * q + p / 10) * 10 = rw e (omega arith) in
        let g = ap (λ (y : ℕ). y * 10) h in
        rw (d, e) (omega (arith, g))

trimmed-length_pos : (k p : ℕ) → 0 < p → p < 10 ^ k → 0 < length (trimmed_places k p)
unfolding trimmed_places
trimmed-length_pos zero p h l = absurd (omega arith)
trimmed-length_pos (suc k) p h l =
    let e = pow-suc 10 k in
    decide (eqb (p % 10) 0)
    (λ t. let z = eqb-true (p % 10) 0 t in rw t (trimmed-length_pos k (p / 10) (omega arith) (omega arith)))
    (λ t. rw t (omega (arith, places-length (suc k) p)))

-- ---- the digits before it
whole-digits : (k n : ℕ) → all_digits (digits k n) ≡ true
unfolding digits all_digits
whole-digits zero n = refl
whole-digits (suc k) n =
    decide (ltb n 10)
    (λ t. rw t (digits_snoc [] (last_digit n) refl (last-is n)))
    (λ t. rw t (digits_snoc (digits k (n / 10)) (last_digit n) (whole-digits k (n / 10)) (last-is n)))

whole-number : (k n : ℕ) → n < 10 ^ k → digits_value 0 (digits k n) ≡ n
unfolding digits digits_value
whole-number zero n h = omega arith
whole-number (suc k) n h =
    let e = pow-suc 10 k in
    decide (ltb n 10)
    (λ t. let l = ltb-true n 10 t in rw t (omega arith))
    (λ t. rw t (number_snoc (digits k (n / 10)) 0 (last_digit n) ∙ omega (arith, whole-number k (n / 10) (omega arith))))

whole-some : (k n : ℕ) → 0 < length (digits (suc k) n)
unfolding digits
whole-some k n = decide (ltb n 10) (λ t. rw t (omega arith)) (λ t. rw t (omega (arith, length_snoc (digits k (n / 10)) (last_digit n))))

-- ---- together
few-digits : (t : List ℕ) → all_digits t ≡ true → digits_value 0 t < 1000000000000000 → length (significant t) ≤ 15
few-digits t d l = leb-true _ _ (sym (significant-few t d) ∙ lt-ltb _ _ l)

read-digits : (t : List ℕ) → some_digits t ≡ true → digits_value 0 t < 1000000000000000
    → read_text (t ++ []) ≡ Some (round binary64 false (digits_value 0 t) 1)
unfolding all_digits pointed
read-digits t d l =
    let e = append-nil t in
    let f : length (significant (t ++ [])) ≤ 15 = rw e (few-digits t (some-all t d) l) in
    read-joined t [] d refl f (omega arith) ∙ ap (λ (u : List ℕ). Some (round binary64 false (digits_value 0 u) 1)) e

read-both : (t u : List ℕ) → some_digits t ≡ true → some_digits u ≡ true → digits_value (digits_value 0 t) u < 1000000000000000 → length u ≤ 22
    → read_text (t ++ (46 ∷ u)) ≡ Some (round binary64 false (digits_value (digits_value 0 t) u) (10 ^ length u))
unfolding some_digits pointed
read-both t [] d e l k = absurd (true≢false (sym e))
read-both t (b ∷ u) d e l k =
    let a = value_append t (b ∷ u) 0 in
    let f = few-digits (t ++ (b ∷ u)) (digits_append t (b ∷ u) (some-all t d) e) (rw a l) in
    read-joined t (b ∷ u) d e f k ∙ ap (λ (n : ℕ). Some (round binary64 false n (10 ^ length (b ∷ u)))) a

all-some : (t : List ℕ) → 0 < length t → all_digits t ≡ true → some_digits t ≡ true
unfolding some_digits
all-some [] h d = absurd (omega arith)
all-some (b ∷ t) h d = d

ten-pos : (k : ℕ) → 0 < 10 ^ k
ten-pos zero = omega arith
ten-pos (suc k) = omega (arith, pow-suc 10 k, ten-pos k)

-- all the digits of m billionths, as they are printed, as one number
abbrev pub shown : ℕ → ℕ
shown m = digits_value (m / 1000000000) (trimmed_places 9 (m % 1000000000))

module _ (x : Float) (m : ℕ) (f : T (fits binary64 x)) (v : HasValue x false m 1000000000) (s : shown m < 1000000000000000) where
  abbrev a : ℕ
  a = m / 1000000000

  abbrev p : ℕ
  p = m % 1000000000

  h : a < 10 ^ 20
  h = omega (arith, value-least (trimmed_places 9 p) a, s)

  whole_is : digits_value 0 (decimal a) ≡ a
  unfolding decimal
  whole_is = whole-number 20 a h

  whole_part : a * 10 ^ 9 + p ≡ m
  whole_part = omega arith

  no_part : p ≡ 0 → read_text (decimal a ++ []) ≡ Some x
  unfolding decimal
  no_part z =
      let q : m * 1 ≡ a * 1000000000 = omega arith in
      let w : HasValue x false a 1 = has_same x false m 1000000000 a 1 (omega arith) q v in
      let b : a ≤ shown m = least (trimmed_places 9 p) a in
      read-digits (decimal a) (all-some (decimal a) (whole-some 19 a) (whole-digits 20 a)) (rw whole_is (omega arith))
      ∙ ap Some (ap (λ (n : ℕ). round binary64 false n 1) whole_is ∙ read_back x false a 1 f (omega arith) w)
    where
      least : (t : List ℕ) (n : ℕ) → n ≤ digits_value n t
      least t n = value-least t n

  some-part : 0 < p → read_text (decimal a ++ (46 ∷ trimmed_places 9 p)) ≡ Some x
  unfolding decimal
  some-part z =
      let L : ℕ = length (trimmed_places 9 p) in
      let q : m * 10 ^ L ≡ shown m * 1000000000 = sym (trimmed-number 9 a p (omega arith) ∙ ap (λ (y : ℕ). y * 10 ^ L) whole_part) in
      let w : HasValue x false (shown m) (10 ^ L) = has_same x false m 1000000000 (shown m) (10 ^ L) (omega arith) q v in
      read-both (decimal a) (trimmed_places 9 p) (all-some (decimal a) (whole-some 19 a) (whole-digits 20 a))
      (all-some (trimmed_places 9 p) (trimmed-length_pos 9 p z (omega arith)) (trimmed-digits 9 p)) (rw whole_is s)
      (omega (arith, trimmed-length 9 p))
      ∙ ap Some (ap (λ (n : ℕ). round binary64 false (digits_value n (trimmed_places 9 p)) (10 ^ L)) whole_is
      ∙ read_back x false (shown m) (10 ^ L) f (ten-pos L) w)

  pub read_printed : read_text (decimal a ++ point_text p) ≡ Some x
  unfolding point_text
  read_printed = decide (eqb p 0) (λ t. rw t (no_part (eqb-true p 0 t))) (λ t. rw t (let z = eqb-false p 0 t in some-part (omega arith)))

-- a text that says x without a mark or a minus is read as x
pub printed-back : (x : Float) (text : List ℕ) → T (fits binary64 x) → (r : Says x text) → r.minus ≡ false → r.exact ≡ true
    → shown r.m < 1000000000000000 → read_text text ≡ Some x
unfolding rounded_text bytes
printed-back x text f r n e s =
    let v : HasValue x false r.m 1000000000 = rw n at (r.unmarked e) in
    rw (r.is, n, e) (read_printed x r.m f v s)
