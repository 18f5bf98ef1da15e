-- The least number that passes a test.
use Rattle.std.specs.Prelude.{ℕ, zero, suc, ◌<◌, Bool, true, false, cond, ◌≡◌}

-- among 0, 1, .. n: n where none below n passes
unfoldable pub least : (ℕ → Bool) → ℕ → ℕ
least f zero = zero
least f (suc n) = cond (f 0) 0 (suc (least (λ o. f (suc o)) n))

-- the same apart from how it is found: r passes, and nothing below it
pub record Least (f : ℕ → Bool) (r : ℕ) : Type 0 where
  pub passes : f r ≡ true
  pub below : (o : ℕ) → o < r → f o ≡ false
