-- What a place of a recipe is made of: itself, and all that the operands are made of that its step needs
-- (model_texts/specs/Whole.antt); and that every step among them makes a polynomial of polynomials. Definitions only.
use Rattle.std.specs.Prelude.{ℕ, ◌≤◌, ◌<◌, Bool, true, false, List, ◌≡◌}
use Rattle.model.specs.declared.Header.{Header}
use Rattle.model.specs.declared.Family.{Family}
use Rattle.model.specs.declared.Family.TheVariants.{Constant, Same, Sum, Product, Quotient, Series, Power, Shift}
use Rattle.model.specs.declared.Family.TheVariants.{Substitution, Term, Order, One}
use Rattle.model_recipes.specs.declared.Step.{Step}
use Rattle.model_recipes.specs.Steps.{step_of, uses_of}
use Rattle.model_recipes.specs.Recipe.{family_of}
use Rattle.model_texts.specs.Trace.{step_word}
use Rattle.model_texts.specs.Full.{full_at}
use Rattle.model_texts.specs.Whole.{needs_first, needs_second, leaves_out}

-- polynomials make polynomials: all but quotients, and exp and log
unfoldable pub is_polynomial : Family → Bool
is_polynomial Constant = true
is_polynomial Same = true
is_polynomial Sum = true
is_polynomial Product = true
is_polynomial Quotient = false
is_polynomial Series = false
is_polynomial (Power e) = true
is_polynomial (Shift v n) = true
is_polynomial (Substitution v) = true
is_polynomial (Term v) = true
is_polynomial (Order v n) = true
is_polynomial One = true

module _ (ss : List ℕ) (inputs : ℕ) where
  abbrev pub step_at : ℕ → Step
  step_at p = step_of (step_word ss inputs p)

  abbrev pub family_at : ℕ → Family
  family_at p = family_of 0 (step_at p)

  -- of the first n places: each operand that a step's kind uses stands before it
  pub record Ordered (n : ℕ) : Type 0 where
    pub first : (p : ℕ) → inputs ≤ p → p < n → (uses_of (step_at p).kind).a ≡ true → (step_at p).a < p
    pub second : (p : ℕ) → inputs ≤ p → p < n → (uses_of (step_at p).kind).b ≡ true → (step_at p).b < p

  -- fs the full lengths of all places
  module _ (fs : List ℕ) where
    abbrev pub takes_first : ℕ → Bool
    takes_first p = needs_first (family_at p)

    abbrev pub takes_second : ℕ → Bool
    takes_second p = needs_second (family_at p) (full_at fs (step_at p).a (step_at p).variable)

    -- the place p is made of the place q
    pub data Made : ℕ → ℕ → Type 0 where
      itself : {p : ℕ} → Made p p
      by_first : {p q : ℕ} → inputs ≤ p → takes_first p ≡ true → Made (step_at p).a q → Made p q
      by_second : {p q : ℕ} → inputs ≤ p → takes_second p ≡ true → Made (step_at p).b q → Made p q

    -- the place p is a polynomial, whatever the inputs hold
    pub record Polynomial (p : ℕ) : Type 0 where
      pub each : (q : ℕ) → Made p q → inputs ≤ q → is_polynomial (family_at q) ≡ true

    -- the place q is a step that leaves terms out
    pub record Drops (known : List Header) (q : ℕ) : Type 0 where
      pub step : inputs ≤ q
      pub out : leaves_out known fs q ≡ true
