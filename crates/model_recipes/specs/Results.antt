-- REFERENCE 6.1, 6.3. What the check of a recipe and its run answer: what a run takes, or that it is done; or why not.
use Rattle.std.specs.Prelude.{ℕ, Result, Ok}
use Rattle.model.specs.declared.Refusal.{Refusal}
use Rattle.model_recipes.specs.declared.Totals.{Totals}

abbrev pub CheckAnswer : Type 0
CheckAnswer = Result Totals Refusal

-- a recipe may be run, and this is what it takes: the pool total, the largest count, the inputs' coefficients
abbrev pub accepting : ℕ → ℕ → ℕ → CheckAnswer
accepting pool most inputs = Ok (record { pool = pool; largest = most; inputs = inputs })

abbrev pub RunAnswer : Type 0
RunAnswer = Result Unit Refusal
