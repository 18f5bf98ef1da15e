-- A test that every place of a range passes; and a loop that looks at one after the other and stops at the first that
-- does not.
use Prim.Native.Nat.{ℕ, zero, suc, ◌+◌, ◌-◌, ◌≤◌, ◌<◌}
use Rattle.std.specs.Prelude.{Bool, true, false, ◌&&◌, ◌≡◌, refl}
use Rattle.std.proofs.Math.Path.{ap}
use Rattle.std.proofs.Common.{◌∙◌, add-zero}
use native.Mathlib.Omega.{arith}
use Rattle.std.proofs.Math.Nat.{sub-zero}

-- f at p, p + 1, ..: n of them
unfoldable pub every : (ℕ → Bool) → ℕ → ℕ → Bool
every f zero p = true
every f (suc n) p = f p && every f n (suc p)

-- tests that agree on the range
pub every-same : (f g : ℕ → Bool) (n p : ℕ) → ((q : ℕ) → p ≤ q → q < p + n → f q ≡ g q) → every f n p ≡ every g n p
unfolding every
every-same f g zero p h = refl
every-same f g (suc n) p h = rw (h p (omega arith) (omega arith), every-same f g n (suc p) (λ q a b. h q (omega arith) (omega arith)))

-- k places passed: what is left to look at decides as the whole does
pub record Passing (f : ℕ → Bool) (n p k : ℕ) : Type 0 where
  pub most : k ≤ n
  pub left : every f n p ≡ every f (n - k) (p + k)

pub passing-none : (f : ℕ → Bool) (n p : ℕ) → Passing f n p 0
passing-none f n p = record { most = omega arith; left = rw (sub-zero n, add-zero p) }

module _ {f : ℕ → Bool} {n p k : ℕ} (s : Passing f n p k) where
  ahead : k < n → every f n p ≡ (f (p + k) && every f (n - (k + 1)) (p + (k + 1)))
  unfolding every
  ahead l =
      let e : n - k ≡ suc (n - (k + 1)) = omega arith in
      let q : suc (p + k) ≡ p + (k + 1) = omega arith in
      s.left ∙ (ap (λ (m : ℕ). every f m (p + k)) e ∙ ap (λ (m : ℕ). f (p + k) && every f (n - (k + 1)) m) q)

  pub passing-more : k < n → f (p + k) ≡ true → Passing f n p (k + 1)
  passing-more l h = record { most = omega arith; left = ahead l ∙ rw h }

  pub passing-stop : k < n → f (p + k) ≡ false → every f n p ≡ false
  passing-stop l h = ahead l ∙ rw h

  pub passing_end : n ≤ k → every f n p ≡ true
  unfolding every
  passing_end l = let e : n - k ≡ 0 = omega arith in s.left ∙ ap (λ (m : ℕ). every f m (p + k)) e
