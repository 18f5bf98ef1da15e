-- How large the number of some digits is: at most 15 of them are significant exactly where it is below 10 ^ 15.
use Rattle.std.specs.Prelude.{ℕ, suc, ◌+◌, ◌-◌, ◌*◌, ◌^◌, ◌≤◌, ◌<◌, true, List, [], ◌∷◌, ◌++◌, ◌≡◌, refl, leb, ltb, eqb}
use Rattle.std.proofs.Common.{sym, ap, ◌∙◌, arith, mul_assoc, mul_right_comm, eqb-true, leb-true, leb-false, lt-ltb, le-ltb}
use Rattle.std.proofs.Math.Nat.{pow-suc, pow-le-pow_right, mul-le-mul_right, le_trans, lt_of_lt_of_le}
use Rattle.std.proofs.Math.ListN.{length}
use Rattle.std.proofs.lemmas.Bool.{eqb-false}
use Rattle.lists.specs.Test.{decide, and_left, and_right}
use Rattle.model_decimals.specs.Typed.{is_digit, all_digits, significant, digits_value}

pub value-least : (t : List ℕ) (n : ℕ) → n ≤ digits_value n t
unfolding digits_value
value-least [] n = omega arith
value-least (b ∷ t) n = omega (arith, value-least t (10 * n + (b - 48)))

pub value_append : (t u : List ℕ) (n : ℕ) → digits_value n (t ++ u) ≡ digits_value (digits_value n t) u
unfolding digits_value
value_append [] u n = refl
value_append (b ∷ t) u n = value_append t u (10 * n + (b - 48))

pub digit-most : (b : ℕ) → is_digit b ≡ true → (48 ≤ b) × (b ≤ 57)
digit-most b d = (leb-true 48 b (and_left (leb 48 b) (leb b 57) d), leb-true b 57 (and_right (leb 48 b) (leb b 57) d))

pub rest-digits : (b : ℕ) (t : List ℕ) → all_digits (b ∷ t) ≡ true → all_digits t ≡ true
unfolding all_digits
rest-digits b t d = and_right (is_digit b) (all_digits t) d

-- n, and then as many digits
ten-times : (n k : ℕ) → n * 10 ^ suc k ≡ n * 10 * 10 ^ k
ten-times n k = ap (λ (y : ℕ). n * y) (pow-suc 10 k) ∙ (sym (mul_assoc n (10 ^ k) 10) ∙ mul_right_comm n (10 ^ k) 10)

value-reaches : (t : List ℕ) (n : ℕ) → n * 10 ^ length t ≤ digits_value n t
unfolding digits_value
value-reaches [] n = omega arith
value-reaches (b ∷ t) n =
    let m : n * 10 * 10 ^ length t ≤ (10 * n + (b - 48)) * 10 ^ length t = mul-le-mul_right (10 ^ length t) (omega arith) in
    rw (ten-times n (length t)) (le_trans m (value-reaches t (10 * n + (b - 48))))

value-below : (t : List ℕ) (n : ℕ) → all_digits t ≡ true → digits_value n t < (n + 1) * 10 ^ length t
unfolding digits_value all_digits
value-below [] n d = omega arith
value-below (b ∷ t) n d =
    let k = digit-most b (and_left (is_digit b) (all_digits t) d) in
    let m : (10 * n + (b - 48) + 1) * 10 ^ length t ≤ (n + 1) * 10 * 10 ^ length t =
    mul-le-mul_right (10 ^ length t) (omega (arith, k.0, k.1)) in
    rw (ten-times (n + 1) (length t)) (lt_of_lt_of_le (value-below t (10 * n + (b - 48)) (and_right (is_digit b) (all_digits t) d)) m)

ten-most : (j k : ℕ) → j ≤ k → 10 ^ j ≤ 10 ^ k
ten-most j k h = pow-le-pow_right {n = 10} (omega arith) h

-- the first digit no zero
module _ (b : ℕ) (t : List ℕ) (d : all_digits (b ∷ t) ≡ true) (z : b ≡ 48 → ⊥) where
  first : (48 ≤ b) × (b ≤ 57)
  unfolding all_digits
  first = digit-most b (and_left (is_digit b) (all_digits t) d)

  few-digits : suc (length t) ≤ 15 → digits_value 0 (b ∷ t) < 1000000000000000
  unfolding digits_value
  few-digits h =
      let l = value-below t (10 * 0 + (b - 48)) (rest-digits b t d) in
      let m : (10 * 0 + (b - 48) + 1) * 10 ^ length t ≤ 10 * 10 ^ length t =
      mul-le-mul_right (10 ^ length t) (omega (arith, first.0, first.1)) in
      let p : 10 * 10 ^ length t ≤ 1000000000000000 = omega (arith, pow-suc 10 (length t), ten-most (suc (length t)) 15 h) in
      lt_of_lt_of_le l (le_trans m p)

  some-digit : 1 ≤ 10 * 0 + (b - 48)
  some-digit = decide (eqb b 48) (λ e. absurd (z (eqb-true b 48 e))) (λ e. let y = eqb-false b 48 e in omega (arith, first.0))

  many-digits : 16 ≤ suc (length t) → 1000000000000000 ≤ digits_value 0 (b ∷ t)
  unfolding digits_value
  many-digits h =
      let l = value-reaches t (10 * 0 + (b - 48)) in
      let m : 1 * 10 ^ length t ≤ (10 * 0 + (b - 48)) * 10 ^ length t = mul-le-mul_right (10 ^ length t) some-digit in
      let p : 1000000000000000 ≤ 1 * 10 ^ length t = omega (arith, ten-most 15 (length t) (omega arith)) in
      le_trans p (le_trans m l)

  counted : ltb (digits_value 0 (b ∷ t)) 1000000000000000 ≡ leb (length (b ∷ t)) 15
  counted =
      decide (leb (suc (length t)) 15)
      (λ h. lt-ltb _ _ (few-digits (leb-true _ _ h)) ∙ sym h)
      (λ h. le-ltb _ _ (many-digits (leb-false _ _ h)) ∙ sym h)

pub significant-few : (t : List ℕ) → all_digits t ≡ true → ltb (digits_value 0 t) 1000000000000000 ≡ leb (length (significant t)) 15
unfolding significant digits_value
significant-few [] d = refl
significant-few (b ∷ t) d =
    decide (eqb b 48)
    (λ z.
    let e = eqb-true b 48 z in
    let y : 10 * 0 + (b - 48) ≡ 0 = omega (arith, e) in
    rw z (ap (λ (n : ℕ). ltb (digits_value n t) 1000000000000000) y ∙ significant-few t (rest-digits b t d)))
    (λ z. rw z (counted b t d (eqb-false b 48 z)))
