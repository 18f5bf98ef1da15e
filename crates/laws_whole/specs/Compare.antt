-- `==` on whole floats says exactly that the numbers are equal; so do the tests against the literals 0.0 and 1.0.
use Rattle.std.specs.Prelude.{◌≡◌, refl, Bool, true, false, ◌||◌, ◌↔◌, ℕ, zero, suc, ◌*◌, ◌<◌, eqb, ℤ, pos, neg_ℤ, nat_abs, Float}
use Rattle.std.proofs.Common.{sym, ap, ◌∙◌, mul-pos, zero-mul, eqb-true, eq-eqb}
use Rattle.std.specs.Bool.{beq}
use Rattle.std.proofs.lemmas.Bool.{false≢true}
use Rattle.std.proofs.Math.Nat.{eq_of_mul-eq-mul_right}
use Rattle.std.proofs.Math.IntN.{pos-ne-negsuc}
use Rattle.std.specs.Float.{binary64}
use Rattle.std.specs.Float.Ieee.{down, level, eq, of_bits}
use Rattle.std.specs.Float.Ieee.Fits.{down_pos}
use Rattle.lists.specs.Test.{and_left, and_right}
use Rattle.laws_whole.specs.Whole.{Whole, both-finite, signed, abs-signed, common, own_sign, whole-zero, whole-unit}

-- a number that is its own negative
none-of-both : (n : ℕ) → pos n ≡ neg_ℤ (pos n) → n ≡ 0
none-of-both zero h = refl
none-of-both (suc n) h = absurd (pos-ne-negsuc (suc n) n h)

-- numbers of one size are equal where they have one sign or are 0
module _ (n : ℕ) (none : Bool) where
  equal-signed : (s t : Bool) → (none ≡ true → n ≡ 0) → (beq s t || none) ≡ true → signed s n ≡ signed t n
  equal-signed false false z h = refl
  equal-signed true true z h = refl
  equal-signed false true z h = rw (z h)
  equal-signed true false z h = rw (z h)

  signed_equal : (s t : Bool) → (n ≡ 0 → none ≡ true) → signed s n ≡ signed t n → (beq s t || none) ≡ true
  signed_equal false false z h = refl
  signed_equal true true z h = refl
  signed_equal false true z h = z (none-of-both n h)
  signed_equal true false z h = z (none-of-both n (sym h))

-- two fractions over c, a and b whole units of it
module _ (a b c : ℕ) (p : 0 < c) (s t : Bool) where
  level-equal : level s (a * c) t (b * c) ≡ true → signed s a ≡ signed t b
  level-equal h =
      let same : a ≡ b = eq_of_mul-eq-mul_right c p a b (eqb-true _ _ (and_left (eqb (a * c) (b * c)) _ h)) in
      equal-signed a (eqb (a * c) 0) s t (λ e. eq_of_mul-eq-mul_right c p a 0 (eqb-true _ _ e ∙ sym (zero-mul c))) (and_right (eqb (a * c) (b * c)) _ h)
      ∙ ap (signed t) same

  equal-level : signed s a ≡ signed t b → level s (a * c) t (b * c) ≡ true
  equal-level h =
      let same : a ≡ b = sym (abs-signed s a) ∙ ap nat_abs h ∙ abs-signed t b in
      rw (eq-eqb (a * c) (b * c) (ap (λ (n : ℕ). n * c) same))
      (signed_equal a (eqb (a * c) 0) s t (λ e. eq-eqb (a * c) 0 (ap (λ (n : ℕ). n * c) e ∙ zero-mul c)) (h ∙ ap (signed t) (sym same)))

pub whole-eq : {x y : Float} {a b : ℤ} → Whole x a → Whole y b → (eq x y ≡ true) ↔ (a ≡ b)
unfolding eq
whole-eq {a} {b} p q =
    both-finite (λ x y. (eq x y ≡ true) ↔ (a ≡ b)) p q (λ s m e t n d p q.
    let c = down e * down d in
    let f = common s m e t n d p q in
    let k = mul-pos (down_pos e) (down_pos d) in (
      λ h. sym (own_sign s m e p) ∙ level-equal (nat_abs a) (nat_abs b) c k s t (rw (f.0, f.1) at h) ∙ own_sign t n d q,
      λ h. rw (f.0, f.1) (equal-level (nat_abs a) (nat_abs b) c k s t (own_sign s m e p ∙ h ∙ sym (own_sign t n d q))),
    ))

pub eq-zero : {x : Float} {z : ℤ} → Whole x z → (eq x (of_bits binary64 0) ≡ true) ↔ (z ≡ pos 0)
eq-zero w = whole-eq w whole-zero

pub eq-one : {x : Float} {z : ℤ} → Whole x z → (eq x (of_bits binary64 0x3ff0000000000000) ≡ true) ↔ (z ≡ pos 1)
eq-one w = whole-eq w whole-unit

-- a test that fails says that the numbers differ
pub not_equal : {t : Bool} {P : Type 0} → (t ≡ true) ↔ P → t ≡ false → P → ⊥
not_equal i f p = false≢true (sym f ∙ i.1 p)
