-- Rows laid end to end, each from its number and the rows before it.
use Prim.Native.Nat.{ℕ, zero, suc, ◌+◌, ◌*◌, ◌≤◌}
use mathlib.Core.List.{List, ◌++◌}
use Rattle.std.specs.Prelude.{◌≡◌, leb, length, take}
use Rattle.std.proofs.Math.Path.{refl}
use Rattle.std.proofs.Common.{◌∙◌, add-one, take_all}
use native.Mathlib.Omega.{arith}
use Rattle.std.proofs.Math.Nat.{mul-le-mul_right}
use Rattle.std.proofs.Math.ListN.{length-append}
use Rattle.std.proofs.Math.Seq.{take-append-le}
use borrow.Author.Tests.{leb-true, leb-false}
use Rattle.lists.specs.Test.{decide}

-- the rows 1 to n after the row 0
unfoldable pub stack {ℓ} : {A : Type ℓ} → ℕ → (ℕ → List A → List A) → List A → List A
stack zero f xs = xs
stack (suc n) f xs = let q = stack n f xs in q ++ f (suc n) q

module _ {ℓ} {A : Type ℓ} (f : ℕ → List A → List A) (xs : List A) where
  pub stack-none : stack 0 f xs ≡ xs
  unfolding stack
  stack-none = refl

  -- one row more
  pub stack-more : (n : ℕ) → stack (n + 1) f xs ≡ stack n f xs ++ f (n + 1) (stack n f xs)
  unfolding stack
  stack-more n = rw (add-one n)

  -- rows of s places each
  module _ (s : ℕ) (e : length xs ≡ s) (h : (k : ℕ) (q : List A) → length (f k q) ≡ s) where
    pub length-stack : (n : ℕ) → length (stack n f xs) ≡ (n + 1) * s
    unfolding stack
    length-stack zero = omega arith
    length-stack (suc n) =
        let q : List A = stack n f xs in
        omega (arith, length-append q (f (suc n) q), length-stack n, h (suc n) q)

    -- the rows before the row i + 1
    pub take-stack : (n i : ℕ) → i ≤ n → take ((i + 1) * s) (stack n f xs) ≡ stack i f xs
    unfolding stack
    take-stack zero i l = let z : i ≡ 0 = omega arith in rw z (take_all ((0 + 1) * s) xs (omega arith))
    take-stack (suc n) i l =
        decide (leb i n)
        (λ t.
        let o = leb-true i n t in
        let m : (i + 1) * s ≤ (n + 1) * s = mul-le-mul_right s (omega arith) in
        take-append-le ((i + 1) * s) (stack n f xs) (f (suc n) (stack n f xs)) (omega (arith, length-stack n)) ∙ take-stack n i o)
        (λ t.
        let z : i ≡ suc n = omega (arith, leb-false i n t) in
        rw z (take_all ((suc n + 1) * s) (stack (suc n) f xs) (omega (arith, length-stack (suc n)))))
