-- A float that is a whole number (document 01, 'Where the result is exact': equality as numbers), and that rounding
-- keeps a whole number of size 2 ^ 53 at most.
use Rattle.std.specs.Prelude.{◌≡◌, refl, Bool, true, false, ℕ, suc, ◌*◌, ◌^◌, ◌≤◌, ◌<◌, ℤ, pos, negsuc, neg_ℤ, nat_abs, Float}
use Rattle.std.proofs.Common.{sym, ap, ◌∙◌, subst, mul-one, mul_assoc, mul_comm, zero-lt-suc}
use Rattle.std.proofs.Math.Nat.{eq_of_mul-eq-mul_right}
use Rattle.std.specs.Float.{nan, inf, fin, binary64}
use Rattle.std.specs.Float.Ieee.{up, down, round, of_int, of_bits}
use Rattle.std.specs.Float.Ieee.Fits.{down_pos}
use Rattle.std.specs.Float.Ieee.Exact.{HasValue}
use Rattle.std.specs.Float.Ieee.Back.{round_whole}
use Rattle.std.specs.Float.Ieee.Scale.{round_same}
use Rattle.laws_whole.specs.Int.{abs_neg}

abbrev pub signed : Bool → ℕ → ℤ
signed false n = pos n
signed true n = neg_ℤ (pos n)

-- x is finite and is the number z; both zeros are 0
pub record Whole (x : Float) (z : ℤ) : Type 0 where
  pub sign : Bool
  pub value : HasValue x sign (nat_abs z) 1
  pub is : signed sign (nat_abs z) ≡ z

pub abs-signed : (s : Bool) (n : ℕ) → nat_abs (signed s n) ≡ n
abs-signed false n = refl
abs-signed true n = abs_neg (pos n)

-- it is finite: what holds of the finite ones holds of it
pub finite : (P : Float → Type 0) {x : Float} {z : ℤ} → Whole x z → ((s : Bool) (m : ℕ) (e : ℤ) → Whole (fin s m e) z → P (fin s m e)) → P x
finite P {x = nan} w h = absurd w.value
finite P {x = inf s} w h = absurd w.value
finite P {x = fin s m e} w h = h s m e w

pub both-finite : (P : Float → Float → Type 0) {x y : Float} {a b : ℤ} → Whole x a → Whole y b
    → ((s : Bool) (m : ℕ) (e : ℤ) (t : Bool) (n : ℕ) (d : ℤ) → Whole (fin s m e) a → Whole (fin t n d) b → P (fin s m e) (fin t n d)) → P x y
both-finite P {y = y} p q h = finite (λ x. P x y) p (λ s m e w. finite (P (fin s m e)) q (λ t n d v. h s m e t n d w v))

-- the float's own fraction, m * up e / down e, is the number's size
pub fraction : (s : Bool) (m : ℕ) (e : ℤ) {z : ℤ} → Whole (fin s m e) z → m * up e ≡ nat_abs z * down e
fraction s m e w = sym (mul-one (m * up e)) ∙ w.value.1

pub own_sign : (s : Bool) (m : ℕ) (e : ℤ) {z : ℤ} → Whole (fin s m e) z → signed s (nat_abs z) ≡ z
own_sign s m e {z} w = ap (λ (t : Bool). signed t (nat_abs z)) w.value.0 ∙ w.is

-- two of them over one denominator
pub common : (s : Bool) (m : ℕ) (e : ℤ) (t : Bool) (n : ℕ) (d : ℤ) {a b : ℤ} → Whole (fin s m e) a → Whole (fin t n d) b
    → (m * up e * down d ≡ nat_abs a * (down e * down d)) × (n * up d * down e ≡ nat_abs b * (down e * down d))
common s m e t n d {a} {b} p q = (
  ap (λ (x : ℕ). x * down d) (fraction s m e p) ∙ mul_assoc (nat_abs a) (down e) (down d),
  ap (λ (x : ℕ). x * down e) (fraction t n d q) ∙ mul_assoc (nat_abs b) (down d) (down e) ∙ ap (λ (x : ℕ). nat_abs b * x) (mul_comm (down d) (down e)),
)

-- one number at most
pub whole-one : {x : Float} {a b : ℤ} → Whole x a → Whole x b → a ≡ b
whole-one {x} {a} {b} p =
    finite (λ x. Whole x b → a ≡ b) p (λ s m e p q.
    let n : nat_abs a ≡ nat_abs b = eq_of_mul-eq-mul_right (down e) (down_pos e) (nat_abs a) (nat_abs b) (sym (fraction s m e p) ∙ fraction s m e q) in
    sym (own_sign s m e p) ∙ ap (signed s) n ∙ own_sign s m e q)

-- a fraction that is a whole number of that size rounds to it
pub whole-round : (s : Bool) (num den : ℕ) (z : ℤ) → 0 < den → num ≡ nat_abs z * den → signed s (nat_abs z) ≡ z
    → nat_abs z ≤ 2 ^ 53 → Whole (round binary64 s num den) z
whole-round s num den z p e k h = record {
  sign = s;
  value =
      subst (λ (x : Float). HasValue x s (nat_abs z) 1)
      (round_same binary64 s (nat_abs z) 1 num den (zero-lt-suc 0) p (sym (mul-one num ∙ e)))
      (round_whole binary64 s (nat_abs z) h);
  is = k;
}

-- ---- what the program holds of a whole number: a cast and the literals

pub whole_int : (z : ℤ) → nat_abs z ≤ 2 ^ 53 → Whole (of_int binary64 z) z
unfolding of_int
whole_int (pos n) h = record { sign = false; value = round_whole binary64 false n h; is = refl }
whole_int (negsuc n) h = record { sign = true; value = round_whole binary64 true (suc n) h; is = refl }

-- 0.0, -0.0 and 1.0
pub whole-zero : Whole (of_bits binary64 0) (pos 0)
unfolding of_bits
whole-zero = record { sign = false; value = (refl, refl); is = refl }

pub whole-minus-zero : Whole (of_bits binary64 0x8000000000000000) (pos 0)
unfolding of_bits
whole-minus-zero = record { sign = true; value = (refl, refl); is = refl }

pub whole-unit : Whole (of_bits binary64 0x3ff0000000000000) (pos 1)
unfolding of_bits
whole-unit = record { sign = false; value = (refl, refl); is = refl }
