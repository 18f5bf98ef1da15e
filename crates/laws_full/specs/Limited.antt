-- What the places of a recipe are where every step is cut to the limits that it announces: the same rules as with no
-- limits, and nothing is kept past a limit. Definitions only.
use Rattle.std.specs.Prelude.{ℕ, min, List, length, ℤ}
use Rattle.lists.specs.Chain.{chain}
use Rattle.lists.specs.Four.{at, four}
use Rattle.model.specs.declared.Header.{Header}
use Rattle.model.specs.Header.{limit}
use Rattle.model_recipes.specs.Recipe.{Recipe, head_at, announced_places}
use Rattle.model_textbook.specs.Textbook.{truncated}
use Rattle.laws_full.specs.Unlimited.{Value, value, step_result, input_values}

-- cut to the limits of a header
unfoldable pub cut_to : Header → Value → Value
cut_to h x = value (four (λ k. min (limit h k) (at x.lengths k))) (truncated h.limits x.series)

-- the step w, vs the values of the places before it, known what all places announce
unfoldable pub limited_step : List Header → ℕ → List Value → Value
limited_step known w vs = cut_to (head_at known (length vs)) (step_result w vs)

-- all places, cs the numbers of each input
unfoldable pub limited : Recipe → (ℕ → ℕ → ℤ) → List Value
limited it cs = chain (limited_step (announced_places it)) (input_values it.headers cs) it.steps
