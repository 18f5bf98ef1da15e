-- REFERENCE 6.5. Document 02, W13: what stops a run, and why a run is refused; what a reason is, and not how it is
-- found.
use Rattle.std.specs.Prelude.{ℕ, ◌+◌, ◌<◌, false, List, ◌≡◌, length, get_or, Float}
use Rattle.model.specs.declared.Refusal.{Refusal}
use Rattle.model.specs.Refusals.{refused_at}
use Rattle.model.specs.Poly.{Poly}
use Rattle.model_exponential.specs.Step.{has_exponential}
use Rattle.model_recipes.specs.Steps.{step_of}
use Rattle.model_recipes.specs.Recipe.{Recipe, up_to}
use Rattle.model_recipes.specs.Reasons.{RunReason}
use Rattle.model_recipes.specs.Run.{value_at, values}

-- 12: the step w is an exponential whose operand's constant is not from -8 to 8, or NaN; vs the values of the places
-- before it
pub record Stops (w : ℕ) (vs : List Poly) : Type 0 where
  pub of_kind : (step_of w).kind ≡ 11
  pub outside : has_exponential (value_at vs (step_of w).a) ≡ false

-- the step number i, with the inputs' coefficients cs
abbrev pub StopsAt : Recipe → List Float → ℕ → Type 0
StopsAt it cs i = Stops (get_or it.steps i 0) (values (up_to it i) cs)

-- the first step that does
pub record FirstStop (it : Recipe) (cs : List Float) (i : ℕ) : Type 0 where
  pub among : i < length it.steps
  pub stops : StopsAt it cs i
  pub first : (j : ℕ) → j < i → StopsAt it cs j → ⊥

-- before its first step or, where nothing is wrong then, at the first that stops it; p, w and s the lengths of pool,
-- words and scratch
pub data RunRefused (it : Recipe) (cs : List Float) (p w s : ℕ) : Refusal → Type 0 where
  before : (r : Refusal) → RunReason it (length cs) p w s r → RunRefused it cs p w s r
  at_step : (i : ℕ) → ((r : Refusal) → RunReason it (length cs) p w s r → ⊥) → FirstStop it cs i
      → RunRefused it cs p w s (refused_at 12 (length it.headers + i))
