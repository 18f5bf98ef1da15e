-- The first place of a range that fails a test: what it is, and a loop that looks for it.
use Prim.Native.Nat.{ℕ, zero, suc, ◌+◌, ◌-◌, ◌≤◌, ◌<◌}
use Rattle.std.specs.Prelude.{Bool, true, false, ◌≡◌, refl, eqb}
use Rattle.std.proofs.Math.Bool.{cond}
use Rattle.std.proofs.Math.Path.{sym, ap}
use Rattle.std.proofs.Common.{◌∙◌, add-zero, zero-add, eqb-true}
use native.Mathlib.Omega.{arith}
use Rattle.std.proofs.Math.Nat.{sub-zero}
use Rattle.std.proofs.lemmas.Bool.{eqb-false}
use Rattle.lists.specs.Every.{every}
use Rattle.lists.specs.Test.{decide}
use Rattle.model_faults.specs.Saying.{first_not}

-- r is the first of n places from p on that fails the test f; p + n where none does
pub record FirstNot (f : ℕ → Bool) (n p r : ℕ) : Type 0 where
  pub from : p ≤ r
  pub most : r ≤ p + n
  pub before : (q : ℕ) → p ≤ q → q < r → f q ≡ true
  pub fails : r < p + n → f r ≡ false

pub first_not_lem : (f : ℕ → Bool) (n p : ℕ) → FirstNot f n p (first_not f n p)
unfolding first_not
first_not_lem f zero p = record { from = omega arith; most = omega arith; before = λ q a b. absurd (omega arith); fails = λ l. absurd (omega arith) }
first_not_lem f (suc n) p =
    decide (f p)
    (λ e.
    let r = first_not_lem f n (suc p) in
    rw e (record {
      from = omega (arith, r.from);
      most = omega (arith, r.most);
      before = λ q a b. decide (eqb q p) (λ y. ap f (eqb-true q p y) ∙ e) (λ y. r.before q (omega (arith, eqb-false q p y)) b);
      fails = λ l. r.fails (omega arith);
    }))
    (λ e. rw e (record { from = omega arith; most = omega arith; before = λ q a b. absurd (omega arith); fails = λ l. e }))

-- where none fails, all pass
pub none-fails : (f : ℕ → Bool) (n p : ℕ) → p + n ≤ first_not f n p → every f n p ≡ true
unfolding first_not every
none-fails f zero p l = refl
none-fails f (suc n) p l =
    decide (f p)
    (λ e. rw e (none-fails f n (suc p) (let m = rw e at l in omega (arith, m))))
    (λ e. let m = rw e at l in absurd (omega (arith, m)))

-- tests that agree up to the first that fails
pub first-same : (f g : ℕ → Bool) (n p : ℕ) → ((q : ℕ) → p ≤ q → q < p + n → f q ≡ g q) → first_not f n p ≡ first_not g n p
unfolding first_not
first-same f g zero p h = refl
first-same f g (suc n) p h = rw (h p (omega arith) (omega arith), first-same f g n (suc p) (λ q a b. h q (omega arith) (omega arith)))

-- k places passed: what is left to look at decides as the whole does
pub record Looking (f : ℕ → Bool) (n p k : ℕ) : Type 0 where
  pub most : k ≤ n
  pub left : first_not f n p ≡ first_not f (n - k) (p + k)

pub looking-none : (f : ℕ → Bool) (n p : ℕ) → Looking f n p 0
looking-none f n p = record { most = omega arith; left = rw (sub-zero n, add-zero p) }

module _ {f : ℕ → Bool} {n p k : ℕ} (s : Looking f n p k) where
  ahead : k < n → first_not f n p ≡ cond (f (p + k)) (first_not f (n - (k + 1)) (p + (k + 1))) (p + k)
  unfolding first_not
  ahead l =
      let e : n - k ≡ suc (n - (k + 1)) = omega arith in
      let q : suc (p + k) ≡ p + (k + 1) = omega arith in
      s.left
      ∙ (ap (λ (m : ℕ). first_not f m (p + k)) e ∙ ap (λ (m : ℕ). cond (f (p + k)) (first_not f (n - (k + 1)) m) (p + k)) q)

  pub looking-more : k < n → f (p + k) ≡ true → Looking f n p (k + 1)
  looking-more l h = record { most = omega arith; left = ahead l ∙ rw h }

  pub looking-stop : k < n → f (p + k) ≡ false → p + k ≡ first_not f n p
  looking-stop l h = sym (ahead l ∙ rw h)

  pub looking_end : n ≤ k → p + k ≡ first_not f n p
  unfolding first_not
  looking_end l = let e : n - k ≡ 0 = omega arith in sym (s.left ∙ ap (λ (m : ℕ). first_not f m (p + k)) e)

-- the same from the place 0 on
module _ {f : ℕ → Bool} {n k : ℕ} (s : Looking f n 0 k) where
  pub front-more : k < n → f k ≡ true → Looking f n 0 (k + 1)
  front-more l h = looking-more s l (rw (zero-add k) h)

  pub front-stop : k < n → f k ≡ false → k ≡ first_not f n 0
  front-stop l h = sym (zero-add k) ∙ looking-stop s l (rw (zero-add k) h)

  pub front_end : n ≤ k → k ≡ first_not f n 0
  front_end l = sym (zero-add k) ∙ looking_end s l
