-- The laws of ℤ that lib.IntN lacks: the product is associative and distributes over the sum, and sizes of sums and
-- products.
use Rattle.std.specs.Prelude.{◌≡◌, refl, ℕ, zero, suc, ◌+◌, ◌*◌, ◌≤◌, ltb, ℤ, pos, negsuc, neg_ℤ, nat_abs, ◌+ℤ◌, ◌-ℤ◌, ◌*ℤ◌}
use Rattle.std.proofs.Common.{sym, ap, ◌∙◌, le_refl, arith, ltb-true}
use Rattle.std.proofs.Math.IntN.{suc_ℤ, pred_ℤ, sub_ℕ, one, suc_ℤ-*ℤ, pred_ℤ-*ℤ, suc_ℤ-+ℤ, pred_ℤ-+ℤ, +ℤ_idl}
use Rattle.std.proofs.Math.IntN.{+ℤ_assoc, +ℤ_comm, *ℤ_comm, *ℤ-one, zero-*ℤ, +ℤ_invl, +ℤ-neg_ℤ_cancel}
use Rattle.lists.specs.Test.{decide}

-- ---- the sum

pub +ℤ-right-comm : (a b c : ℤ) → (a +ℤ b) +ℤ c ≡ (a +ℤ c) +ℤ b
+ℤ-right-comm a b c = +ℤ_assoc a b c ∙ ap (λ x. a +ℤ x) (+ℤ_comm b c) ∙ sym (+ℤ_assoc a c b)

pub +ℤ-left-comm : (a b c : ℤ) → a +ℤ (b +ℤ c) ≡ b +ℤ (a +ℤ c)
+ℤ-left-comm a b c = sym (+ℤ_assoc a b c) ∙ ap (λ x. x +ℤ c) (+ℤ_comm a b) ∙ +ℤ_assoc b a c

-- what is taken off comes back
pub neg_+ℤ_cancel : (a b : ℤ) → neg_ℤ a +ℤ (a +ℤ b) ≡ b
neg_+ℤ_cancel a b = sym (+ℤ_assoc (neg_ℤ a) a b) ∙ ap (λ x. x +ℤ b) (+ℤ_invl a) ∙ +ℤ_idl b

-- a sum that is 0 is of a number and its negative
pub neg-of-sum : (a b : ℤ) → a +ℤ b ≡ pos 0 → a ≡ neg_ℤ b
neg-of-sum a b h = sym (+ℤ-neg_ℤ_cancel a b) ∙ ap (λ x. x -ℤ b) h ∙ +ℤ_idl (neg_ℤ b)

-- ---- the product, by steps of one in its first factor

by-steps : (P : ℤ → Type 0) → P (pos 0) → ((a : ℤ) → P a → P (suc_ℤ a)) → ((a : ℤ) → P a → P (pred_ℤ a)) → (a : ℤ) → P a
by-steps P z s p (pos zero) = z
by-steps P z s p (pos (suc n)) = s (pos n) (by-steps P z s p (pos n))
by-steps P z s p (negsuc zero) = p (pos zero) z
by-steps P z s p (negsuc (suc n)) = p (negsuc n) (by-steps P z s p (negsuc n))

pub right_distrib : (a b c : ℤ) → (a +ℤ b) *ℤ c ≡ a *ℤ c +ℤ b *ℤ c
right_distrib a b c =
    by-steps (λ a. (a +ℤ b) *ℤ c ≡ a *ℤ c +ℤ b *ℤ c)
    (ap (λ x. x *ℤ c) (+ℤ_idl b) ∙ sym (+ℤ_idl (b *ℤ c)) ∙ ap (λ x. x +ℤ b *ℤ c) (sym (zero-*ℤ c)))
    (λ a h. ap (λ x. x *ℤ c) (suc_ℤ-+ℤ a b) ∙ suc_ℤ-*ℤ (a +ℤ b) c ∙ ap (λ x. x +ℤ c) h ∙ +ℤ-right-comm (a *ℤ c) (b *ℤ c) c
    ∙ ap (λ x. x +ℤ b *ℤ c) (sym (suc_ℤ-*ℤ a c)))
    (λ a h. ap (λ x. x *ℤ c) (pred_ℤ-+ℤ a b) ∙ pred_ℤ-*ℤ (a +ℤ b) c ∙ ap (λ x. x -ℤ c) h
    ∙ +ℤ-right-comm (a *ℤ c) (b *ℤ c) (neg_ℤ c) ∙ ap (λ x. x +ℤ b *ℤ c) (sym (pred_ℤ-*ℤ a c)))
    a

pub left_distrib : (a b c : ℤ) → a *ℤ (b +ℤ c) ≡ a *ℤ b +ℤ a *ℤ c
left_distrib a b c = *ℤ_comm a (b +ℤ c) ∙ right_distrib b c a ∙ ap (λ x. x +ℤ c *ℤ a) (*ℤ_comm b a) ∙ ap (λ x. a *ℤ b +ℤ x) (*ℤ_comm c a)

pub neg_*ℤ : (a b : ℤ) → neg_ℤ a *ℤ b ≡ neg_ℤ (a *ℤ b)
neg_*ℤ a b = neg-of-sum (neg_ℤ a *ℤ b) (a *ℤ b) (sym (right_distrib (neg_ℤ a) a b) ∙ ap (λ x. x *ℤ b) (+ℤ_invl a) ∙ zero-*ℤ b)

pub *ℤ-neg : (a b : ℤ) → a *ℤ neg_ℤ b ≡ neg_ℤ (a *ℤ b)
*ℤ-neg a b = *ℤ_comm a (neg_ℤ b) ∙ neg_*ℤ b a ∙ ap neg_ℤ (*ℤ_comm b a)

pub *ℤ-assoc : (a b c : ℤ) → (a *ℤ b) *ℤ c ≡ a *ℤ (b *ℤ c)
*ℤ-assoc a b c =
    by-steps (λ a. (a *ℤ b) *ℤ c ≡ a *ℤ (b *ℤ c))
    (ap (λ x. x *ℤ c) (zero-*ℤ b) ∙ zero-*ℤ c ∙ sym (zero-*ℤ (b *ℤ c)))
    (λ a h. ap (λ x. x *ℤ c) (suc_ℤ-*ℤ a b) ∙ right_distrib (a *ℤ b) b c ∙ ap (λ x. x +ℤ b *ℤ c) h ∙ sym (suc_ℤ-*ℤ a (b *ℤ c)))
    (λ a h. ap (λ x. x *ℤ c) (pred_ℤ-*ℤ a b) ∙ right_distrib (a *ℤ b) (neg_ℤ b) c ∙ ap (λ x. x +ℤ neg_ℤ b *ℤ c) h
    ∙ ap (λ x. a *ℤ (b *ℤ c) +ℤ x) (neg_*ℤ b c) ∙ sym (pred_ℤ-*ℤ a (b *ℤ c)))
    a

pub *ℤ-left-comm : (a b c : ℤ) → a *ℤ (b *ℤ c) ≡ b *ℤ (a *ℤ c)
*ℤ-left-comm a b c = sym (*ℤ-assoc a b c) ∙ ap (λ x. x *ℤ c) (*ℤ_comm a b) ∙ *ℤ-assoc b a c

-- by `simp ring` two sums of products are equal that are equal multiplied out
pub ruleset ring = (left_distrib, right_distrib, *ℤ-assoc, *ℤ_comm, *ℤ-left-comm, +ℤ_assoc, +ℤ_comm, +ℤ-left-comm)

pub *ℤ-unit : (a : ℤ) → a *ℤ pos 1 ≡ a
unfolding one
*ℤ-unit a = *ℤ-one a

-- ---- sizes

abs-minus : (a b : ℕ) → nat_abs (sub_ℕ a b) ≤ a + b
abs-minus a b = decide (ltb a b) (λ t. let l = ltb-true a b t in rw t (omega arith)) (λ t. rw t (omega arith))

pub abs-add : (a b : ℤ) → nat_abs (a +ℤ b) ≤ nat_abs a + nat_abs b
abs-add (pos a) (pos b) = le_refl (a + b)
abs-add (pos a) (negsuc b) = abs-minus a (suc b)
abs-add (negsuc a) (pos b) = omega (arith, abs-minus b (suc a))
abs-add (negsuc a) (negsuc b) = omega arith

pub abs_neg : (a : ℤ) → nat_abs (neg_ℤ a) ≡ nat_abs a
abs_neg (pos zero) = refl
abs_neg (pos (suc n)) = refl
abs_neg (negsuc n) = refl

pub abs-sub : (a b : ℤ) → nat_abs (a -ℤ b) ≤ nat_abs a + nat_abs b
abs-sub a b = rw (← abs_neg b) (abs-add a (neg_ℤ b))

pub abs-mul : (a b : ℤ) → nat_abs (a *ℤ b) ≡ nat_abs a * nat_abs b
abs-mul (pos a) (pos b) = refl
abs-mul (pos a) (negsuc b) = abs_neg (pos (a * suc b))
abs-mul (negsuc a) (pos b) = abs_neg (pos (suc a * b))
abs-mul (negsuc a) (negsuc b) = refl

pub abs-none : (a : ℤ) → nat_abs a ≡ 0 → a ≡ pos 0
abs-none (pos n) h = ap pos h
abs-none (negsuc n) h = absurd (omega (arith, h))

-- ---- the units 1 and -1

pub unit-square : (b : ℤ) → nat_abs b ≡ 1 → b *ℤ b ≡ pos 1
unit-square (pos n) h = ap (λ (m : ℕ). pos (m * m)) h
unit-square (negsuc n) h = ap (λ (m : ℕ). pos (m * m)) h

-- a unit is its own inverse
pub unit-back : (a b : ℤ) → nat_abs b ≡ 1 → a *ℤ b *ℤ b ≡ a
unit-back a b h = *ℤ-assoc a b b ∙ ap (λ (x : ℤ). a *ℤ x) (unit-square b h) ∙ *ℤ-unit a
