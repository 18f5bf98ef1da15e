-- The first of n places that has a cause, a number other than 0; n where none has.
use Rattle.std.specs.Prelude.{ℕ, zero, suc, ◌+◌, ◌≤◌, ◌<◌, Bool, true, false, cond, ◌≡◌, refl, ltb, eqb}
use Rattle.std.proofs.Common.{ap, ◌∙◌, arith, ltb-true, ltb-false, eqb-true}
use Rattle.std.proofs.lemmas.Bool.{eqb-false}

unfoldable pub first : ℕ → (ℕ → ℕ) → ℕ
first zero f = zero
first (suc n) f = cond (ltb (first n f) n) (first n f) (cond (eqb (f n) 0) (suc n) n)

pub record First (n : ℕ) (f : ℕ → ℕ) (r : ℕ) : Type 0 where
  pub most : r ≤ n
  pub clear : (j : ℕ) → j < r → f j ≡ 0
  pub stop : r < n → f r ≡ 0 → ⊥

below_suc : (n : ℕ) (f : ℕ → ℕ) → ((j : ℕ) → j < n → f j ≡ 0) → f n ≡ 0 → (j : ℕ) → j < suc n → f j ≡ 0
below_suc n f h e j l =
    elim (ltb j n) as (λ (b : Bool). ltb j n ≡ b → f j ≡ 0) [
      | true ↦ λ t. h j (ltb-true j n t)
      | false ↦ λ t. ap f (let k : j ≡ n = omega (arith, ltb-false j n t) in k) ∙ e
    ] refl

module _ (n : ℕ) (f : ℕ → ℕ) (r : ℕ) (h : First n f r) where
  step-stopped : (b : Bool) → ltb r n ≡ b → (c : Bool) → eqb (f n) 0 ≡ c → First (suc n) f (cond b r (cond c (suc n) n))
  step-stopped true e c d = let l = ltb-true r n e in record { most = omega arith; clear = h.clear; stop = λ _. h.stop l }
  step-stopped false e true d =
      let k : r ≡ n = omega (arith, ltb-false r n e, h.most) in
      record { most = omega arith; clear = below_suc n f (rw k at h.clear) (eqb-true _ _ d); stop = λ l. absurd (omega arith) }
  step-stopped false e false d =
      let k : r ≡ n = omega (arith, ltb-false r n e, h.most) in
      record { most = omega arith; clear = rw k at h.clear; stop = λ l. eqb-false _ _ d }

pub first-first : (n : ℕ) (f : ℕ → ℕ) → First n f (first n f)
unfolding first
first-first zero f = record { most = omega arith; clear = λ j l. absurd (omega arith); stop = λ l. absurd (omega arith) }
first-first (suc n) f = step-stopped n f (first n f) (first-first n f) _ refl _ refl

pub first_one : {n : ℕ} {f : ℕ → ℕ} {r q : ℕ} → First n f r → First n f q → r ≡ q
first_one {n} {f} {r} {q} a b =
    elim (ltb r q) as (λ (t : Bool). ltb r q ≡ t → r ≡ q) [
      | true ↦ λ t. absurd (a.stop (let l = ltb-true r q t in omega arith) (b.clear r (ltb-true r q t)))
      | false ↦ λ t.
          elim (ltb q r) as (λ (u : Bool). ltb q r ≡ u → r ≡ q) [
            | true ↦ λ u. absurd (b.stop (let l = ltb-true q r u in omega arith) (a.clear q (ltb-true q r u)))
            | false ↦ λ u. omega (arith, ltb-false r q t, ltb-false q r u)
          ] refl
    ] refl

pub first-is : {n : ℕ} {f : ℕ → ℕ} {r : ℕ} → First n f r → r ≡ first n f
first-is {n} {f} h = first_one h (first-first n f)

-- what a loop that looks for the first has seen after i turns
pub record Clear (n : ℕ) (f : ℕ → ℕ) (i : ℕ) : Type 0 where
  pub most : i ≤ n
  pub clear : (j : ℕ) → j < i → f j ≡ 0

pub clear_none : (n : ℕ) (f : ℕ → ℕ) → Clear n f 0
clear_none n f = record { most = omega arith; clear = λ j l. absurd (omega arith) }

pub clear-more : {n : ℕ} {f : ℕ → ℕ} {i : ℕ} → Clear n f i → f i ≡ 0 → i < n → Clear n f (i + 1)
clear-more {n} {f} {i} c e l = record { most = omega arith; clear = λ j h. below_suc i f c.clear e j (omega arith) }

pub clear-stop : {n : ℕ} {f : ℕ → ℕ} {i : ℕ} → Clear n f i → i < n → (f i ≡ 0 → ⊥) → i ≡ first n f
clear-stop c l s = first-is (record { most = c.most; clear = c.clear; stop = λ _. s })

pub clear_end : {n : ℕ} {f : ℕ → ℕ} {i : ℕ} → Clear n f i → n ≤ i → i ≡ first n f
clear_end c l = first-is (record { most = c.most; clear = c.clear; stop = λ h. absurd (omega arith) })
