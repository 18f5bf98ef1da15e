-- What rests on laws of specs/ (Totals).
use Rattle.std.specs.Prelude.{ℕ, suc, ◌-◌, ◌≤◌, ◌<◌, List, get_or, ℤ, Float}
use native.Mathlib.Omega.{arith}
use Rattle.std.specs.Float.Ieee.{nan}
use Rattle.model_recipes.specs.Recipe.{Recipe}
use Rattle.model_forecast.specs.Totals.{amounts, bars}
use Rattle.laws_whole.specs.Whole.{Whole}
use Rattle.laws_full.specs.Unlimited.{Value, value_at, unlimited}
use Rattle.laws_full.specs.Setting.{size}
use Rattle.laws_totals.proofs.Totals.{below}
use Rattle.laws_totals.specs.Totals.{Given, total_of}

-- ---- a recipe: xs its inputs' coefficients, and cs the whole numbers
-- that they are

module _ (it : Recipe) (xs : List Float) (cs : ℕ → ℕ → ℤ) where
  -- the exact value of the place p with no limits anywhere, what is found for its total, and what stands in the way
  abbrev exact_at : ℕ → Value
  exact_at = value_at (unlimited it cs)

  abbrev amount_at : ℕ → Float
  amount_at p = get_or (amounts it.headers xs it.steps) p nan

  abbrev bar_at : ℕ → ℕ
  bar_at p = get_or (bars it.headers it.steps) p 64

  module _ (z : (Given it xs cs)) where
    -- the number found is the sum over all indices
    pub total-whole : (p : ℕ) → p < size it → 64 ≤ bar_at p → Whole (amount_at p) (total_of (exact_at p))
    total-whole p l o = ((below it xs cs z) (suc p) p (omega arith) l o).whole
