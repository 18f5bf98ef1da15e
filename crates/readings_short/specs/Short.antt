-- Constructors: a short list is written, one place or two.
use Rattle.std.specs.Prelude.{ℕ, ◌+◌, ◌≤◌, ◌<◌, List, [], ◌∷◌, ◌++◌, ◌≡◌, refl, length, take, drop, set, Float}
use Rattle.std.proofs.Common.{ap, ◌∙◌, arith}
use Rattle.lists.specs.Four.{at, each}
use Rattle.model.specs.declared.Header.{Header}
use Rattle.model.specs.Header.{span, stored, zero_with, var_with}
use Rattle.model.specs.Refusals.{written}
use Rattle.model.specs.Constructed.{variable}
use Rattle.model.specs.Readings.{one_f}
use Rattle.gates.specs.Gate.{written-full}

-- a constant has one place
pub zero-count : (vars : ℕ) (l : List ℕ) → stored (zero_with vars l) ≡ 1
unfolding zero_with span
zero-count vars l = refl

-- x + v has two at most
pub var-count : (vars : ℕ) (l : List ℕ) (v : ℕ) → v < 4 → stored (var_with v vars l) ≤ 2
unfolding var_with zero_with span
var-count vars l = each (λ v. stored (var_with v vars l) ≤ 2) (omega arith) (omega arith) (omega arith) (omega arith)

one-front : (x : Float) (out : List Float) → 1 ≤ length out → set out 0 x ≡ (x ∷ []) ++ drop 1 out
one-front x [] h = absurd (omega arith)
one-front x (y ∷ out) h = refl

two-front : (x y : Float) (out : List Float) → 2 ≤ length out → set (set out 0 x) 1 y ≡ (x ∷ y ∷ []) ++ drop 2 out
two-front x y [] h = absurd (omega arith)
two-front x y (z ∷ []) h = absurd (omega arith)
two-front x y (z ∷ w ∷ out) h = refl

module _ (h : Header) (x : Float) (out : List Float) where
  pub short-one : 1 ≤ length out → stored h ≡ 1 → set out 0 x ≡ written (stored h) (variable h x).coeffs out
  short-one l e = rw e (one-front x out l ∙ written-full 1 (x ∷ []) out refl)

  pub short-two : 2 ≤ length out → stored h ≡ 2 → set (set out 0 x) 1 one_f ≡ written (stored h) (variable h x).coeffs out
  short-two l e = rw e (two-front x one_f out l ∙ written-full 2 (x ∷ one_f ∷ []) out refl)

-- a constant is what is written where there is one place
pub constant-is : (vars : ℕ) (l : List ℕ) (x : Float) → (variable (zero_with vars l) x).coeffs ≡ x ∷ []
constant-is vars l x = ap (λ (n : ℕ). take n (x ∷ one_f ∷ [])) (zero-count vars l)
