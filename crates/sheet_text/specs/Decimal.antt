-- Numbers in decimal: how long they are, and what the last digit is put behind.
use Rattle.std.specs.Prelude.{ℕ, zero, suc, ◌+◌, ◌/◌, ◌^◌, ◌≤◌, ◌<◌, List, [], ◌∷◌, ◌++◌, map, ◌≡◌, refl, ltb, length}
use Rattle.std.proofs.Common.{ap, ◌∙◌, arith, pow-suc, lt-ltb, le-ltb}
use Rattle.lists.specs.Grow.{length_snoc}
use Rattle.lists.specs.Test.{decide}
use Rattle.model_texts.specs.Printed.{last_digit, digits, decimal}

-- one digit less
pub tenth : (k n : ℕ) → n < 10 ^ suc k → n / 10 < 10 ^ k
tenth k n h = let e = pow-suc 10 k in omega (arith, e)

-- more digits than there are make no difference
digits_more : (k n : ℕ) → n < 10 ^ suc k → digits (suc k) n ≡ digits (suc (suc k)) n
unfolding digits
digits_more zero n h = rw (lt-ltb n 10 (omega arith))
digits_more (suc k) n h =
    decide (ltb n 10) (λ t. rw t) (λ t. rw t (ap (λ (l : List ℕ). l ++ (last_digit n ∷ [])) (digits_more k (n / 10) (tenth (suc k) n h))))

digits-most : (f k n : ℕ) → 1 ≤ k → n < 10 ^ k → length (digits f n) ≤ k
unfolding digits
digits-most zero k n p h = omega arith
digits-most (suc f) zero n p h = absurd (omega arith)
digits-most (suc f) (suc zero) n p h = rw (lt-ltb n 10 (omega arith)) (omega arith)
digits-most (suc f) (suc (suc k)) n p h =
    decide (ltb n 10)
    (λ t. rw t (omega arith))
    (λ t. rw t (omega (arith, length_snoc (digits f (n / 10)) (last_digit n), digits-most f (suc k) (n / 10) (omega arith) (tenth (suc k) n h))))

pub decimal-most : (k n : ℕ) → 1 ≤ k → n < 10 ^ k → k ≤ 20 → length (decimal n) ≤ k
unfolding decimal
decimal-most k n p h l = digits-most 20 k n p h

-- one digit
pub decimal_digit : (n : ℕ) → n < 10 → decimal n ≡ last_digit n ∷ []
unfolding decimal digits
decimal_digit n h = rw (lt-ltb n 10 h)

digits_last : (k n : ℕ) → 10 ≤ n → digits (suc k) n ≡ digits k (n / 10) ++ (last_digit n ∷ [])
unfolding digits
digits_last k n l = rw (le-ltb n 10 l)

-- more digits
pub decimal-more : (n : ℕ) → 10 ≤ n → n < 10 ^ 20 → decimal n ≡ decimal (n / 10) ++ (last_digit n ∷ [])
unfolding decimal
decimal-more n l h = digits_last 19 n l ∙ ap (λ (d : List ℕ). d ++ (last_digit n ∷ [])) (digits_more 18 (n / 10) (tenth 19 n h))

pub length-decimal-more : (n : ℕ) → 10 ≤ n → n < 10 ^ 20 → length (decimal n) ≡ length (decimal (n / 10)) + 1
length-decimal-more n l h = ap length (decimal-more n l h) ∙ length_snoc (decimal (n / 10)) (last_digit n)

-- 0, 7, 64, 100, 2 ^ 53 and the largest word
pub decimal_examples : map decimal (0 ∷ 7 ∷ 64 ∷ 100 ∷ 9007199254740992 ∷ 18446744073709551615 ∷ [])
    ≡ (48 ∷ [])
    ∷ (55 ∷ [])
    ∷ (54 ∷ 52 ∷ [])
    ∷ (49 ∷ 48 ∷ 48 ∷ [])
    ∷ (57 ∷ 48 ∷ 48 ∷ 55 ∷ 49 ∷ 57 ∷ 57 ∷ 50 ∷ 53 ∷ 52 ∷ 55 ∷ 52 ∷ 48 ∷ 57 ∷ 57 ∷ 50 ∷ [])
    ∷ (49 ∷ 56 ∷ 52 ∷ 52 ∷ 54 ∷ 55 ∷ 52 ∷ 52 ∷ 48 ∷ 55 ∷ 51 ∷ 55 ∷ 48 ∷ 57 ∷ 53 ∷ 53 ∷ 49 ∷ 54 ∷ 49 ∷ 53 ∷ [])
    ∷ []
unfolding decimal digits
decimal_examples = refl
