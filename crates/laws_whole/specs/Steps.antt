-- A walk whose steps each add a known whole number is exact where the sizes sum to 2 ^ 53 at most; so is a sum from
-- +0.0 upward.
use Rattle.std.specs.Prelude.{List, ℕ, zero, suc, ◌+◌, ◌*◌, ◌^◌, ◌≤◌, ◌<◌, get_or, ℤ, nat_abs, ◌+ℤ◌, ◌*ℤ◌, Float}
use Rattle.std.proofs.Common.{le_refl, arith}
use Rattle.std.proofs.Math.IntN.{+ℤ_assoc, +ℤ_idl, +ℤ_idr}
use Rattle.std.specs.Float.{nan, binary64}
use Rattle.std.specs.Float.Ieee.{add, mul, of_bits}
use Rattle.lists.specs.Walk.{walk}
use Rattle.model_textbook.specs.Sum.{sum, sum_n, sum_z}
use Rattle.laws_whole.specs.Int.{abs-add, abs-mul}
use Rattle.laws_whole.specs.Whole.{Whole, whole-zero}
use Rattle.laws_whole.specs.Exact.{whole-add, whole-mul}

-- the step at j adds e j, which is w j at most in size, wherever there is room for it
pub record Adds (f : ℕ → Float → Float) (e : ℕ → ℤ) (w : ℕ → ℕ) (n a : ℕ) : Type 0 where
  pub size : (j : ℕ) → a ≤ j → j < a + n → nat_abs (e j) ≤ w j
  pub step : (j : ℕ) → a ≤ j → j < a + n → (x : Float) (c : ℤ) → Whole x c → nat_abs c + w j ≤ 2 ^ 53 → Whole (f j x) (c +ℤ e j)

pub whole-walk : {f : ℕ → Float → Float} {e : ℕ → ℤ} {w : ℕ → ℕ} {n a : ℕ} → Adds f e w n a
    → {x : Float} {c : ℤ} → Whole x c → nat_abs c + sum_n w n a ≤ 2 ^ 53 → Whole (walk f n a x) (c +ℤ sum_z e n a)
unfolding walk sum
whole-walk {n = zero} s {x} {c} p h = rw (+ℤ_idr c) p
whole-walk {f} {e} {w} {n = suc n} {a} s {x} {c} p h =
    rw (← +ℤ_assoc c (e a) (sum_z e n (suc a)))
    (whole-walk {f = f} {e = e} {w = w} {n = n} {a = suc a}
    (record { size = λ j u v. s.size j (omega arith) (omega arith); step = λ j u v. s.step j (omega arith) (omega arith) })
    (s.step a (omega arith) (omega arith) x c p (omega arith))
    (omega (arith, abs-add c (e a), s.size a (omega arith) (omega arith))))

-- ---- one step

-- acc + x
pub add_step : {x y : Float} {c b : ℤ} → Whole x c → Whole y b → nat_abs c + nat_abs b ≤ 2 ^ 53 → Whole (add binary64 x y) (c +ℤ b)
add_step {c} {b} p q h = whole-add p q (omega (arith, abs-add c b))

-- acc + x * y
pub mul-step : {x y z : Float} {c a b : ℤ} → Whole x c → Whole y a → Whole z b → nat_abs c + nat_abs a * nat_abs b ≤ 2 ^ 53
    → Whole (add binary64 x (mul binary64 y z)) (c +ℤ a *ℤ b)
mul-step {c} {a} {b} p q r h = add_step p (whole-mul q r (omega (arith, abs-mul a b))) (omega (arith, abs-mul a b))

-- ---- sums of terms, from any start and from +0.0

module _ (g : ℕ → Float) (e : ℕ → ℤ) (n a : ℕ) (known : (j : ℕ) → a ≤ j → j < a + n → Whole (g j) (e j)) where
  pub whole-adds : Adds (λ i acc. add binary64 acc (g i)) e (λ j. nat_abs (e j)) n a
  whole-adds = record { size = λ j p q. le_refl (nat_abs (e j)); step = λ j p q x c w h. add_step w (known j p q) h }

-- the products of two rows of terms
pub whole_products : (g h : ℕ → Float) (p q : ℕ → ℤ) (n a : ℕ) → ((j : ℕ) → a ≤ j → j < a + n → Whole (g j) (p j))
    → ((j : ℕ) → a ≤ j → j < a + n → Whole (h j) (q j))
    → Adds (λ i acc. add binary64 acc (mul binary64 (g i) (h i))) (λ j. p j *ℤ q j) (λ j. nat_abs (p j) * nat_abs (q j)) n a
whole_products g h p q n a u v = record { size = λ j l r. omega (arith, abs-mul (p j) (q j)); step = λ j l r x c w b. mul-step w (u j l r) (v j l r) b }
