-- REFERENCE 6.6. What the check of a recipe answers whose pool is used again.
use Rattle.std.specs.Prelude.{ℕ, Result, Ok}
use Rattle.model.specs.declared.Refusal.{Refusal}
use Rattle.model_placing.specs.declared.ReuseTotals.{ReuseTotals}

abbrev pub ReuseAnswer : Type 0
ReuseAnswer = Result ReuseTotals Refusal

-- a recipe may be run so, and this is what it takes; and where the last step's value begins
abbrev pub accepting : ℕ → ℕ → ℕ → ℕ → ReuseAnswer
accepting pool most inputs last = Ok (record { pool = pool; largest = most; inputs = inputs; last = last })
