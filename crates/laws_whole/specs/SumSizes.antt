-- Sums of ℕ and of ℤ: a constant factor and a sign out of the sum, and bounds by sums of sizes.
use Rattle.std.specs.Prelude.{◌≡◌, refl, ℕ, ◌+◌, ◌-◌, ◌*◌, ◌≤◌, ◌<◌, ℤ, pos, neg_ℤ, nat_abs, ◌*ℤ◌}
use Rattle.std.proofs.Common.{ap, ◌∙◌, le_refl, zero-mul, add-mul, arith}
use Rattle.std.proofs.Math.IntN.{zero-*ℤ, *ℤ-zero, neg_ℤ-+ℤ}
use Rattle.model_textbook.specs.Sum.{add_n, add_z, sum_n, sum_z}
use Rattle.laws_whole.specs.Int.{abs-add, left_distrib, right_distrib}
use Rattle.laws_whole.specs.SumLaws.{Additive, Through, sum_related, sum_through, sum-split, sum_one}

-- ---- a factor, a sign, a cast

pub factor_n : (c : ℕ) → Through add_n add_n (λ x. x * c)
factor_n c = record { nil = zero-mul c; plus = λ x y. add-mul x y c }

pub factor_z : (c : ℤ) → Through add_z add_z (λ x. x *ℤ c)
factor_z c = record { nil = zero-*ℤ c; plus = λ x y. right_distrib x y c }

pub left_factor_z : (c : ℤ) → Through add_z add_z (λ x. c *ℤ x)
left_factor_z c = record { nil = *ℤ-zero c; plus = left_distrib c }

pub negation : Through add_z add_z neg_ℤ
negation = record { nil = refl; plus = neg_ℤ-+ℤ }

pub cast : Through add_n add_z pos
cast = record { nil = refl; plus = λ x y. refl }

pub sum_n-times : (f : ℕ → ℕ) (c n a : ℕ) → sum_n f n a * c ≡ sum_n (λ j. f j * c) n a
sum_n-times f c = sum_through (factor_n c) f

pub sum_z-times : (f : ℕ → ℤ) (c : ℤ) (n a : ℕ) → sum_z f n a *ℤ c ≡ sum_z (λ j. f j *ℤ c) n a
sum_z-times f c = sum_through (factor_z c) f

pub times-sum_z : (c : ℤ) (f : ℕ → ℤ) (n a : ℕ) → c *ℤ sum_z f n a ≡ sum_z (λ j. c *ℤ f j) n a
times-sum_z c = sum_through (left_factor_z c)

pub neg-sum_z : (f : ℕ → ℤ) (n a : ℕ) → neg_ℤ (sum_z f n a) ≡ sum_z (λ j. neg_ℤ (f j)) n a
neg-sum_z = sum_through negation

pub pos-sum_n : (f : ℕ → ℕ) (n a : ℕ) → pos (sum_n f n a) ≡ sum_z (λ j. pos (f j)) n a
pos-sum_n = sum_through cast

-- ---- order and size

pub ordered : Additive add_n add_n (λ a b. a ≤ b)
ordered = record { nil = le_refl 0; plus = λ a b c d p q. omega arith }

-- the size of a sum is the sum of the sizes at most
pub sized : Additive add_z add_n (λ z w. nat_abs z ≤ w)
sized = record { nil = le_refl 0; plus = λ a b c d p q. omega (arith, abs-add a b) }

pub sum_n-le : (f g : ℕ → ℕ) (n a : ℕ) → ((j : ℕ) → a ≤ j → j < a + n → f j ≤ g j) → sum_n f n a ≤ sum_n g n a
sum_n-le = sum_related ordered

pub abs-sum_z : (e : ℕ → ℤ) (w : ℕ → ℕ) (n a : ℕ) → ((j : ℕ) → a ≤ j → j < a + n → nat_abs (e j) ≤ w j) → nat_abs (sum_z e n a) ≤ sum_n w n a
abs-sum_z = sum_related sized

-- a range within another
pub sum_n-part : (f : ℕ → ℕ) (n a m b : ℕ) → b ≤ a → a + n ≤ b + m → sum_n f n a ≤ sum_n f m b
sum_n-part f n a m b h k =
    let i = a - b in
    let r = m - (i + n) in
    let e : m ≡ i + (n + r) = omega arith in
    let s : b + i ≡ a = omega arith in
    let whole : sum_n f m b ≡ sum_n f i b + (sum_n f n a + sum_n f r (a + n)) =
    ap (λ (z : ℕ). sum_n f z b) e
    ∙ sum-split add_n f i (n + r) b
    ∙ ap (λ (z : ℕ). sum_n f i b + sum_n f (n + r) z) s
    ∙ ap (λ (z : ℕ). sum_n f i b + z) (sum-split add_n f n r a) in
    omega arith

-- a term is the sum at most
pub sum_n-term : (f : ℕ → ℕ) (j m b : ℕ) → b ≤ j → j < b + m → f j ≤ sum_n f m b
sum_n-term f j m b h k = rw (← sum_one add_n f j) (sum_n-part f 1 j m b h (omega arith))
