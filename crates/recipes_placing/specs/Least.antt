-- Laws of the least number that passes a test: it is found, and there is only one.
use Rattle.std.specs.Prelude.{ℕ, zero, suc, ◌≤◌, ◌<◌, Bool, true, false, cond, ◌≡◌, refl, ltb}
use Rattle.std.proofs.Common.{arith, ltb-true, ltb-false}
use Rattle.lists.specs.Test.{decide}
use Rattle.model_placing.specs.Least.{least, Least}

pub clash : (b : Bool) → b ≡ true → b ≡ false → ⊥
clash b t f = let w : ◌≡◌ {A = ℕ} 0 1 = cc in omega arith

-- there is only one
pub least-one : {f : ℕ → Bool} {r q : ℕ} → Least f r → Least f q → r ≡ q
least-one {f} {r} {q} a b =
    decide (ltb r q) (λ t. absurd (clash (f r) a.passes (b.below r (ltb-true r q t))))
    (λ t. decide (ltb q r) (λ u. absurd (clash (f q) b.passes (a.below q (ltb-true q r u))))
    (λ u. omega (arith, ltb-false r q t, ltb-false q r u)))

shifted : {f : ℕ → Bool} {r : ℕ} → f 0 ≡ false → Least (λ o. f (suc o)) r → Least f (suc r)
shifted {f} {r} e l = record { passes = l.passes; below = down }
  where
    down : (o : ℕ) → o < suc r → f o ≡ false
    down zero h = e
    down (suc o) h = l.below o (omega arith)

first : (f : ℕ → Bool) (b : Bool) {m : ℕ} → f 0 ≡ b → (f 0 ≡ false → Least (λ o. f (suc o)) m) → Least f (cond b 0 (suc m))
first f true e h = record { passes = e; below = λ o l. absurd (omega arith) }
first f false e h = shifted e (h e)

-- it is found where n passes
pub least-least : (f : ℕ → Bool) (n : ℕ) → f n ≡ true → Least f (least f n)
unfolding least
least-least f zero h = record { passes = h; below = λ o l. absurd (omega arith) }
least-least f (suc n) h = first f (f 0) refl (λ _. least-least (λ o. f (suc o)) n h)

bound : (b : Bool) {m n : ℕ} → m ≤ n → cond b 0 (suc m) ≤ suc n
bound true h = omega arith
bound false h = omega arith

pub least-most : (f : ℕ → Bool) (n : ℕ) → least f n ≤ n
unfolding least
least-most f zero = omega arith
least-most f (suc n) = bound (f 0) (least-most (λ o. f (suc o)) n)
