-- Negation, sum, difference, product and division by 1 or -1 at binary64 are exact on whole floats where the result's
-- size is 2 ^ 53 at most.
use Rattle.std.specs.Prelude.{◌≡◌, refl, Bool, not, ℕ, zero, suc, ◌+◌, ◌-◌, ◌*◌, ◌^◌, ◌≤◌, ◌<◌, ltb, eqb, ℤ, nat_abs, ◌+ℤ◌, ◌-ℤ◌, ◌*ℤ◌, Float}
use Rattle.std.proofs.Math.Path.{sym, ap}
use Rattle.std.proofs.Common.{ap₂, ◌∙◌, mul-one, one-mul, mul_assoc, mul_comm, mul-pos, zero-mul, mul-zero, add-mul}
use Rattle.std.proofs.Common.{lt_of_mul-lt-mul_right, le_of_mul-le-mul_right, lt_irrefl, arith, ltb-true, ltb-false}
use Rattle.std.proofs.Common.{eqb-true}
use Rattle.std.proofs.Math.Bool.{true, false}
use Rattle.std.proofs.Math.Nat.{mul-mul-mul_comm, mul-sub}
use Rattle.std.proofs.Math.IntN.{pos, neg_ℤ, neg_ℤ-neg_ℤ, neg_ℤ-+ℤ, zero-*ℤ, +ℤ_comm}
use Rattle.std.specs.Float.{binary64}
use Rattle.std.specs.Float.Ieee.{up, down, unlike, round, neg, sum, add, sub, mul, div}
use Rattle.std.specs.Float.Ieee.Fits.{down_pos}
use Rattle.lists.specs.Test.{decide}
use Rattle.laws_whole.specs.Int.{abs_neg, abs-mul}
use Rattle.laws_whole.specs.Whole.{Whole, finite, both-finite, signed, abs-signed, fraction, common, own_sign, whole-round}

-- ---- signs

neg-none : (n : ℕ) → n ≡ 0 → neg_ℤ (pos n) ≡ pos n
neg-none zero h = refl
neg-none (suc n) h = absurd (omega (arith, h))

signed-neg : (s : Bool) (n : ℕ) → signed (not s) n ≡ neg_ℤ (signed s n)
signed-neg false n = refl
signed-neg true n = sym (neg_ℤ-neg_ℤ (pos n))

signed_mul : (s t : Bool) (a b : ℕ) → signed (unlike s t) (a * b) ≡ signed s a *ℤ signed t b
signed_mul false false a b = refl
signed_mul false true a zero = neg-none (a * 0) (mul-zero a)
signed_mul false true a (suc b) = refl
signed_mul true false zero b = neg-none (0 * b) (zero-mul b)
signed_mul true false (suc a) b = refl
signed_mul true true zero b = ap pos (zero-mul b) ∙ sym (zero-*ℤ (neg_ℤ (pos b)))
signed_mul true true (suc a) zero = sym (neg-none (suc a * 0) (mul-zero (suc a)))
signed_mul true true (suc a) (suc b) = refl

-- a - b, where b is at most a, and where it is more
pub minus_ge : (a b : ℕ) → b ≤ a → pos a +ℤ neg_ℤ (pos b) ≡ pos (a - b)
minus_ge a zero h = ap pos (omega arith)
minus_ge a (suc b) h = decide (ltb a (suc b)) (λ t. absurd (omega (arith, ltb-true a (suc b) t))) (λ t. rw t)

minus-lt : (a b : ℕ) → a < b → pos a +ℤ neg_ℤ (pos b) ≡ neg_ℤ (pos (b - a))
minus-lt a b h =
    sym (neg_ℤ-neg_ℤ (pos a +ℤ neg_ℤ (pos b)))
    ∙ ap neg_ℤ
    (neg_ℤ-+ℤ (pos a) (neg_ℤ (pos b))
    ∙ +ℤ_comm (neg_ℤ (pos a)) (neg_ℤ (neg_ℤ (pos b)))
    ∙ ap (λ (x : ℤ). x +ℤ neg_ℤ (pos a)) (neg_ℤ-neg_ℤ (pos b))
    ∙ minus_ge b a (omega arith))

-- ---- the result of an operation: a fraction over den, n whole units of it, of the sign s

rounded_lem : (s : Bool) (n num den : ℕ) (z : ℤ) → 0 < den → num ≡ n * den → signed s n ≡ z → nat_abs z ≤ 2 ^ 53 → Whole (round binary64 s num den) z
rounded_lem s n num den z p e k h =
    let i : n ≡ nat_abs z = sym (abs-signed s n) ∙ ap nat_abs k in
    whole-round s num den z p (e ∙ ap (λ (m : ℕ). m * den) i) (ap (signed s) (sym i) ∙ k) h

-- ---- negation

pub whole_neg : {x : Float} {a : ℤ} → Whole x a → Whole (neg x) (neg_ℤ a)
unfolding neg
whole_neg {a} p =
    finite (λ x. Whole (neg x) (neg_ℤ a)) p (λ s m e p. record {
      sign = not p.sign;
      value = (ap not p.value.0, p.value.1 ∙ ap (λ (n : ℕ). n * down e) (sym (abs_neg a)));
      is = ap (signed (not p.sign)) (abs_neg a) ∙ signed-neg p.sign (nat_abs a) ∙ ap neg_ℤ p.is;
    })

-- ---- sum and difference

minus-mul : (a b c : ℕ) → a * c - b * c ≡ (a - b) * c
minus-mul a b c = ap (λ (x : ℕ). x - b * c) (mul_comm a c) ∙ ap (λ (x : ℕ). c * a - x) (mul_comm b c) ∙ sym (mul-sub c a b) ∙ mul_comm c (a - b)

-- the sign of a difference that is not positive
not-positive : (s : Bool) (n : ℕ) → (s ≡ false → n ≡ 0) → signed s n ≡ neg_ℤ (pos n)
not-positive true n h = refl
not-positive false n h = sym (neg-none n (h refl))

-- of two fractions over c, a and b whole units of it
module _ (a b c : ℕ) (p : 0 < c) where
  lower : ltb (a * c) (b * c) ≡ true → a < b
  lower t = lt_of_mul-lt-mul_right c (ltb-true (a * c) (b * c) t)

  higher : ltb (a * c) (b * c) ≡ false → b ≤ a
  higher t = le_of_mul-le-mul_right (ltb-false (a * c) (b * c) t) p

  not_lower : ltb (b * c) (a * c) ≡ false → a ≤ b
  not_lower t = le_of_mul-le-mul_right (ltb-false (b * c) (a * c) t) p

  whole_fractions : (s t : Bool) (z : ℤ) → signed s a +ℤ signed t b ≡ z → nat_abs z ≤ 2 ^ 53 → Whole (sum binary64 s (a * c) t (b * c) c) z
  unfolding sum
  whole_fractions false false z k h = rounded_lem false (a + b) (a * c + b * c) c z p (sym (add-mul a b c)) k h
  whole_fractions true true z k h = rounded_lem true (a + b) (a * c + b * c) c z p (sym (add-mul a b c)) (neg_ℤ-+ℤ (pos a) (pos b) ∙ k) h
  whole_fractions false true z k h =
      decide (ltb (a * c) (b * c))
      (λ t. rw t (rounded_lem true (b - a) (b * c - a * c) c z p (minus-mul b a c) (sym (minus-lt a b (lower t)) ∙ k) h))
      (λ t. rw t (rounded_lem false (a - b) (a * c - b * c) c z p (minus-mul a b c) (sym (minus_ge a b (higher t)) ∙ k) h))
  whole_fractions true false z k h =
      let back : neg_ℤ (pos a) +ℤ pos b ≡ neg_ℤ (pos a +ℤ neg_ℤ (pos b)) =
      sym (neg_ℤ-+ℤ (pos a) (neg_ℤ (pos b)) ∙ ap (λ (x : ℤ). neg_ℤ (pos a) +ℤ x) (neg_ℤ-neg_ℤ (pos b))) in
      decide (ltb (a * c) (b * c))
      (λ t. rw t (rounded_lem false (b - a) (b * c - a * c) c z p (minus-mul b a c)
      (sym (back ∙ ap neg_ℤ (minus-lt a b (lower t)) ∙ neg_ℤ-neg_ℤ (pos (b - a))) ∙ k) h))
      (λ t. rw t (rounded_lem (ltb (b * c) (a * c)) (a - b) (a * c - b * c) c z p (minus-mul a b c)
      (not-positive (ltb (b * c) (a * c)) (a - b) (λ u. let l = not_lower u in omega arith) ∙ sym (back ∙ ap neg_ℤ (minus_ge a b (higher t))) ∙ k) h))

pub whole-add : {x y : Float} {a b : ℤ} → Whole x a → Whole y b → nat_abs (a +ℤ b) ≤ 2 ^ 53 → Whole (add binary64 x y) (a +ℤ b)
unfolding add
whole-add {a} {b} p q h =
    both-finite (λ x y. Whole (add binary64 x y) (a +ℤ b)) p q (λ s m e t n d p q.
    let f = common s m e t n d p q in
    rw (f.0, f.1)
    (whole_fractions (nat_abs a) (nat_abs b) (down e * down d) (mul-pos (down_pos e) (down_pos d)) s t (a +ℤ b)
    (ap₂ ◌+ℤ◌ (own_sign s m e p) (own_sign t n d q)) h))

pub whole_sub : {x y : Float} {a b : ℤ} → Whole x a → Whole y b → nat_abs (a -ℤ b) ≤ 2 ^ 53 → Whole (sub binary64 x y) (a -ℤ b)
unfolding sub
whole_sub p q h = whole-add p (whole_neg q) h

-- ---- product

-- the sign of a product
sign-mul : (s t : Bool) {a b : ℤ} → signed s (nat_abs a) ≡ a → signed t (nat_abs b) ≡ b → signed (unlike s t) (nat_abs a * nat_abs b) ≡ a *ℤ b
sign-mul s t {a} {b} p q = signed_mul s t (nat_abs a) (nat_abs b) ∙ ap₂ ◌*ℤ◌ p q

pub whole-mul : {x y : Float} {a b : ℤ} → Whole x a → Whole y b → nat_abs (a *ℤ b) ≤ 2 ^ 53 → Whole (mul binary64 x y) (a *ℤ b)
unfolding mul
whole-mul {a} {b} p q h =
    both-finite (λ x y. Whole (mul binary64 x y) (a *ℤ b)) p q (λ s m e t n d p q.
    rounded_lem (unlike s t) (nat_abs a * nat_abs b) (m * up e * (n * up d)) (down e * down d) (a *ℤ b) (mul-pos (down_pos e) (down_pos d))
    (rw (fraction s m e p, fraction t n d q) (mul-mul-mul_comm (nat_abs a) (down e) (nat_abs b) (down d)))
    (sign-mul s t (own_sign s m e p) (own_sign t n d q)) h)

-- ---- division by 1 and -1

above-none : (n u : ℕ) → 0 < n * u → n ≡ 0 → ⊥
above-none n u h e = lt_irrefl 0 (rw (e, zero-mul u) at h)

pub whole-div : {x y : Float} {a b : ℤ} → Whole x a → Whole y b → nat_abs b ≡ 1 → nat_abs a ≤ 2 ^ 53 → Whole (div binary64 x y) (a *ℤ b)
unfolding div
whole-div {a} {b} p q u h =
    both-finite (λ x y. Whole (div binary64 x y) (a *ℤ b)) p q (λ s m e t n d p q.
    let one : n * up d ≡ down d = fraction t n d q ∙ ap (λ (x : ℕ). x * down d) u ∙ one-mul (down d) in
    let unit : nat_abs a * nat_abs b ≡ nat_abs a = ap (λ (x : ℕ). nat_abs a * x) u ∙ mul-one (nat_abs a) in
    decide (eqb n 0)
    (λ t. absurd (above-none n (up d) (rw one (down_pos d)) (eqb-true n 0 t)))
    (λ f. rw f (rounded_lem (unlike s t) (nat_abs a * nat_abs b) (m * up e * down d) (n * up d * down e) (a *ℤ b)
    (rw one (mul-pos (down_pos d) (down_pos e)))
    (ap (λ (x : ℕ). x * down d) (fraction s m e p) ∙ mul_assoc (nat_abs a) (down e) (down d)
    ∙ ap (λ (x : ℕ). nat_abs a * x) (mul_comm (down e) (down d) ∙ ap (λ (x : ℕ). x * down e) (sym one))
    ∙ ap (λ (x : ℕ). x * (n * up d * down e)) (sym unit))
    (sign-mul s t (own_sign s m e p) (own_sign t n d q))
    (rw (abs-mul a b ∙ unit) h))))
