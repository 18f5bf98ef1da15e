-- A number in decimal is that number: its digits, read from the left, give it back.
use Rattle.std.specs.Prelude.{ℕ, zero, suc, ◌+◌, ◌-◌, ◌*◌, ◌/◌, ◌%◌, ◌^◌, ◌<◌, Bool, true, ◌&&◌, cond, ◌≡◌, refl, leb, ltb}
use mathlib.Core.List.{List, [], ◌∷◌, ◌++◌, append_assoc, append-nil}
use Rattle.std.proofs.Common.{sym, ◌∙◌, arith, le-leb, ltb-true}
use Rattle.std.proofs.Math.Path.{ap}
use Rattle.lists.specs.Test.{decide}
use Rattle.model_texts.specs.Printed.{last_digit, digits, decimal}
use Rattle.sheet_text.specs.Decimal.{tenth}

abbrev is_decimal : ℕ → Bool
is_decimal b = leb 48 b && leb b 57

-- the number at the front of a text, n being what was read of it so far; and what stands behind it, without the one
-- byte that ends it
unfoldable pub number_at : ℕ → List ℕ → ℕ
number_at n [] = n
number_at n (b ∷ t) = cond (is_decimal b) (number_at (10 * n + (b - 48)) t) n

unfoldable pub behind_number : List ℕ → List ℕ
behind_number [] = []
behind_number (b ∷ t) = cond (is_decimal b) (behind_number t) t

digit-is : (n : ℕ) → is_decimal (last_digit n) ≡ true
digit-is n = rw (le-leb 48 (last_digit n) (omega arith), le-leb (last_digit n) 57 (omega arith))

-- one digit more
number-digit : (k n : ℕ) (t : List ℕ) → number_at k (last_digit n ∷ t) ≡ number_at (10 * k + n % 10) t
unfolding number_at
number-digit k n t = let e : last_digit n - 48 ≡ n % 10 = omega arith in rw (digit-is n, e)

behind-digit : (n : ℕ) (t : List ℕ) → behind_number (last_digit n ∷ t) ≡ behind_number t
unfolding behind_number
behind-digit n t = rw (digit-is n)

digits_number : (k n : ℕ) (t : List ℕ) → n < 10 ^ k → number_at 0 (digits k n ++ t) ≡ number_at n t
unfolding digits
digits_number zero n t h = let e : 0 ≡ n = omega arith in ap (λ (m : ℕ). number_at m t) e
digits_number (suc k) n t h =
    decide (ltb n 10)
    (λ s. let l = ltb-true n 10 s in let e : 10 * 0 + n % 10 ≡ n = omega arith in rw s (number-digit 0 n t ∙ ap (λ (m : ℕ). number_at m t) e))
    (λ s.
    let e : 10 * (n / 10) + n % 10 ≡ n = omega arith in
    rw (s, append_assoc (digits k (n / 10)) (last_digit n ∷ []) t)
    (digits_number k (n / 10) (last_digit n ∷ t) (tenth k n h) ∙ (number-digit (n / 10) n t ∙ ap (λ (m : ℕ). number_at m t) e)))

digits-behind : (k n : ℕ) (t : List ℕ) → behind_number (digits k n ++ t) ≡ behind_number t
unfolding digits
digits-behind zero n t = refl
digits-behind (suc k) n t =
    decide (ltb n 10)
    (λ s. rw s (behind-digit n t))
    (λ s. rw (s, append_assoc (digits k (n / 10)) (last_digit n ∷ []) t) (digits-behind k (n / 10) (last_digit n ∷ t) ∙ behind-digit n t))

module _ (n : ℕ) where
  pub decimal-number : (t : List ℕ) → n < 10 ^ 20 → number_at 0 (decimal n ++ t) ≡ number_at n t
  unfolding decimal
  decimal-number t h = digits_number 20 n t h

  pub decimal-behind : (t : List ℕ) → behind_number (decimal n ++ t) ≡ behind_number t
  unfolding decimal
  decimal-behind t = digits-behind 20 n t

  -- the whole text is the number
  pub decimal-value : n < 10 ^ 20 → number_at 0 (decimal n) ≡ n
  unfolding number_at
  decimal-value h = ap (number_at 0) (sym (append-nil (decimal n))) ∙ decimal-number [] h
