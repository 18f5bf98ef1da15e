-- Four numbers, one to a variable: the lists of limits, lengths, strides and indices.
use Rattle.std.specs.Prelude.{ℕ, zero, suc, ◌-◌, ◌<◌, List, [], ◌∷◌, Bool, true, false, ◌≡◌, refl, eqb, length, get_or, set}
use Rattle.std.proofs.Common.{arith, lit<, get_or-set_same, get_or-set_other, eqb-true}
use Rattle.std.proofs.lemmas.Bool.{eqb-false}

abbrev pub at : List ℕ → ℕ → ℕ
at l k = get_or l k 0

abbrev pub four : (ℕ → ℕ) → List ℕ
four f = f 0 ∷ f 1 ∷ f 2 ∷ f 3 ∷ []

-- what holds of 0, 1, 2, 3
pub each {ℓ} : (P : ℕ → Type ℓ) → P 0 → P 1 → P 2 → P 3 → (i : ℕ) → i < 4 → P i
each P a b c d zero h = a
each P a b c d (suc zero) h = b
each P a b c d (suc (suc zero)) h = c
each P a b c d (suc (suc (suc zero))) h = d
each P a b c d (suc (suc (suc (suc i)))) h = absurd (no i h)
  where
    no : (i : ℕ) → suc (suc (suc (suc i))) < 4 → ⊥
    no i h = omega arith

pub at-four : (f : ℕ → ℕ) (k : ℕ) → k < 4 → at (four f) k ≡ f k
at-four f = each (λ k. at (four f) k ≡ f k) refl refl refl refl

-- lists that agree at the four places
pub four_same : (f g : ℕ → ℕ) → ((k : ℕ) → k < 4 → f k ≡ g k) → four f ≡ four g
four_same f g h = rw (h 0 (lit< tt), h 1 (lit< tt), h 2 (lit< tt), h 3 (lit< tt))

-- one of the numbers changed

pub long : (l : List ℕ) (v : ℕ) → 0 < at l v → v < length l
long [] v h = absurd (omega (arith, h))
long (x ∷ l) zero h = omega arith
long (x ∷ l) (suc v) h = let q = long l v h in omega arith

pub at_same : (l : List ℕ) (v k : ℕ) → v < length l → at (set l v k) v ≡ k
at_same l v k h = get_or-set_same l v k 0 h

pub at_other : (l : List ℕ) (v w k : ℕ) → (w ≡ v → ⊥) → at (set l v k) w ≡ at l w
at_other l v w k h = get_or-set_other l v w k 0 h

-- a property of the places of a list with one changed
pub one-changed : (Q : ℕ → ℕ → Type 0) (l : List ℕ) (v k : ℕ) → v < length l → Q v k
    → ((w : ℕ) → w < 4 → (w ≡ v → ⊥) → Q w (at l w)) → (w : ℕ) → w < 4 → Q w (at (set l v k) w)
one-changed Q l v k p q r w h = go (eqb w v) refl
  where
    go : (b : Bool) → eqb w v ≡ b → Q w (at (set l v k) w)
    go true e = let i : w ≡ v = eqb-true w v e in rw (i, at_same l v k p) q
    go false e = let n : w ≡ v → ⊥ = eqb-false w v e in rw (at_other l v w k n) (r w h n)
