-- A text of 1 to 18 digits says the number that its digits make; a number printed in decimal is read back.
use Rattle.std.specs.Prelude.{ℕ, zero, suc, ◌+◌, ◌-◌, ◌*◌, ◌/◌, ◌^◌, ◌≤◌, ◌<◌, Bool, true, false, ◌&&◌, ◌≡◌, refl, ltb, length, get_or}
use Rattle.std.proofs.Common.{true≢false, sym, ap, ◌∙◌, arith, pow-suc}
use mathlib.Core.List.{List, [], ◌∷◌, ◌++◌, append_assoc}
use Rattle.std.proofs.Math.Dec.{leb}
use Rattle.std.proofs.Math.Seq.{get_or-append_seam}
use borrow.Author.Tests.{le-leb, leb-true, lt-ltb}
use Rattle.lists.specs.Every.{every}
use Rattle.lists.specs.Grow.{length_snoc}
use Rattle.lists.specs.Test.{decide, and_left, and_right}
use Rattle.lists.specs.Walk.{walk}
use Rattle.model_texts.specs.Printed.{last_digit, digits, decimal}
use Rattle.model_decimals.specs.Typed.{is_digit, all_digits, digits_value}
use Rattle.sheet_text.specs.Decimal.{decimal-most}
use Rattle.sheet_text.specs.Value.{number_at, decimal-value}
use Rattle.settings_command.specs.Argument.{is_decimal, pushed, is_number, number_of, says, whole_of}

-- ---- a text byte by byte: what was read of it, the next byte, the rest
next_byte : (seen rest : List ℕ) (b : ℕ) → seen ++ (b ∷ rest) ≡ (seen ++ (b ∷ [])) ++ rest
next_byte seen rest b = sym (append_assoc seen (b ∷ []) rest)

-- the test of every byte is that of the list
every-digits : (seen rest : List ℕ) → every (λ p. is_decimal (get_or (seen ++ rest) p 0)) (length rest) (length seen) ≡ all_digits rest
unfolding every all_digits
every-digits seen [] = refl
every-digits seen (b ∷ rest) =
    let e = next_byte seen rest b in
    let l : suc (length seen) ≡ length (seen ++ (b ∷ [])) = sym (length_snoc seen b ∙ omega arith) in
    let more : every (λ p. is_decimal (get_or (seen ++ (b ∷ rest)) p 0)) (length rest) (suc (length seen)) ≡ all_digits rest =
    ap (λ (t : List ℕ). every (λ p. is_decimal (get_or t p 0)) (length rest) (suc (length seen))) e
    ∙ (ap (λ (k : ℕ). every (λ p. is_decimal (get_or ((seen ++ (b ∷ [])) ++ rest) p 0)) (length rest) k) l
    ∙ every-digits (seen ++ (b ∷ [])) rest) in
    rw (get_or-append_seam seen b rest 0, more)

pushed_digit_lem : (b n : ℕ) → n < 100000000000000000 → pushed b n ≡ 10 * n + (b - 48)
unfolding pushed
pushed_digit_lem b n h = rw (lt-ltb n 100000000000000000 h)

-- seventeen digits at most were read before the last of eighteen
small : (n k j : ℕ) → n < 10 ^ k → k + j ≡ 17 → n < 100000000000000000
small n k zero h e = let d : k ≡ 17 = omega arith in rw d at h
small n k (suc j) h e = let p = pow-suc 10 k in small n (suc k) j (omega arith) (omega arith)

digit-more : (n k d : ℕ) → n < 10 ^ k → d ≤ 9 → 10 * n + d < 10 ^ suc k
digit-more n k d h l = let e = pow-suc 10 k in omega arith

walked : (seen rest : List ℕ) (n : ℕ) → n < 10 ^ length seen → length seen + length rest ≤ 18 → all_digits rest ≡ true
    → walk (λ p m. pushed (get_or (seen ++ rest) p 0) m) (length rest) (length seen) n ≡ digits_value n rest
unfolding walk digits_value all_digits
walked seen [] n h l d = refl
walked seen (b ∷ rest) n h l d =
    let i = and_left (is_digit b) (all_digits rest) d in
    let most = leb-true b 57 (and_right (leb 48 b) (leb b 57) i) in
    let e = next_byte seen rest b in
    let s = length_snoc seen b in
    let first : pushed (get_or (seen ++ (b ∷ rest)) (length seen) 0) n ≡ 10 * n + (b - 48) =
    ap (λ (x : ℕ). pushed x n) (get_or-append_seam seen b rest 0) ∙ pushed_digit_lem b n (small n (length seen) (17 - length seen) h (omega arith)) in
    let k : length seen + 1 ≡ suc (length seen) = omega arith in
    let bound : 10 * n + (b - 48) < 10 ^ length (seen ++ (b ∷ [])) =
    rw (s, k) (digit-more n (length seen) (b - 48) h (omega arith)) in
    ap (λ (m : ℕ). walk (λ p m. pushed (get_or (seen ++ (b ∷ rest)) p 0) m) (length rest) (suc (length seen)) m) first
    ∙ (ap (λ (t : List ℕ). walk (λ p m. pushed (get_or t p 0) m) (length rest) (suc (length seen)) (10 * n + (b - 48))) e
    ∙ (ap (λ (j : ℕ). walk (λ p m. pushed (get_or ((seen ++ (b ∷ [])) ++ rest) p 0) m) (length rest) j (10 * n + (b - 48)))
    (sym (s ∙ k))
    ∙ walked (seen ++ (b ∷ [])) rest (10 * n + (b - 48)) bound (omega arith) (and_right (is_digit b) (all_digits rest) d)))

module _ (t : List ℕ) (h : is_number t ≡ true) where
  both : ((leb 1 (length t) && leb (length t) 18) && every (λ p. is_decimal (get_or t p 0)) (length t) 0) ≡ true
  unfolding is_number
  both = h

  all_digits_lem : all_digits t ≡ true
  all_digits_lem = sym (every-digits [] t) ∙ and_right (leb 1 (length t) && leb (length t) 18) _ both

  pub number-says : number_of t ≡ digits_value 0 t
  unfolding number_of
  number-says =
      let l = leb-true (length t) 18 (and_right (leb 1 (length t)) _ (and_left (leb 1 (length t) && leb (length t) 18) _ both)) in
      walked [] t 0 (omega arith) (omega arith) all_digits_lem

-- ---- a number in decimal
same-value : (t : List ℕ) (n : ℕ) → all_digits t ≡ true → number_at n t ≡ digits_value n t
unfolding number_at digits_value all_digits
same-value [] n d = refl
same-value (b ∷ t) n d =
    rw (and_left (is_digit b) (all_digits t) d) (same-value t (10 * n + (b - 48)) (and_right (is_digit b) (all_digits t) d))

last-is : (n : ℕ) → is_digit (last_digit n) ≡ true
last-is n = rw (le-leb 48 (last_digit n) (omega arith), le-leb (last_digit n) 57 (omega arith))

snoc-digits : (t : List ℕ) (b : ℕ) → all_digits t ≡ true → is_digit b ≡ true → all_digits (t ++ (b ∷ [])) ≡ true
unfolding all_digits
snoc-digits [] b d e = rw e
snoc-digits (x ∷ t) b d e =
    rw (and_left (is_digit x) (all_digits t) d) (snoc-digits t b (and_right (is_digit x) (all_digits t) d) e)

some_digits_lem : (k n : ℕ) → all_digits (digits k n) ≡ true
unfolding digits all_digits
some_digits_lem zero n = refl
some_digits_lem (suc k) n =
    decide (ltb n 10)
    (λ s. rw s (snoc-digits [] (last_digit n) refl (last-is n)))
    (λ s. rw s (snoc-digits (digits k (n / 10)) (last_digit n) (some_digits_lem k (n / 10)) (last-is n)))

one-digit : (k n : ℕ) → 1 ≤ length (digits (suc k) n)
unfolding digits
one-digit k n =
    decide (ltb n 10) (λ s. rw s (omega arith)) (λ s. rw s (omega (arith, length_snoc (digits k (n / 10)) (last_digit n))))

module _ (n : ℕ) (h : n < 1000000000000000000) where
  decimal-digits : all_digits (decimal n) ≡ true
  unfolding decimal
  decimal-digits = some_digits_lem 20 n

  decimal-some : 1 ≤ length (decimal n)
  unfolding decimal
  decimal-some = one-digit 19 n

  pub decimal-is : is_number (decimal n) ≡ true
  unfolding is_number
  decimal-is =
      let m = decimal-most 18 n (omega arith) h (omega arith) in
      rw (le-leb 1 (length (decimal n)) decimal-some, le-leb (length (decimal n)) 18 m)
      (every-digits [] (decimal n) ∙ decimal-digits)

  -- a number that was printed is taken for itself
  pub whole_back : whole_of (decimal n) ≡ says n
  unfolding whole_of
  whole_back =
      rw decimal-is
      (ap says (number-says (decimal n) decimal-is ∙ (sym (same-value (decimal n) 0 decimal-digits) ∙ decimal-value n (omega arith))))
