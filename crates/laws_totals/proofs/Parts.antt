-- What rests on laws of specs/ (Parts).
use Rattle.std.specs.Prelude.{ℕ, ◌^◌, ◌≤◌, ◌<◌, List, ℤ, nat_abs, Float}
use Rattle.std.proofs.Common.{sym, subst}
use Rattle.std.specs.Float.Ieee.{sub}
use Rattle.std.specs.Float.{binary64}
use Rattle.model_recipes.specs.Recipe.{Recipe}
use Rattle.laws_whole.specs.Whole.{Whole}
use Rattle.laws_whole.specs.Exact.{whole_sub}
use Rattle.laws_full.specs.Setting.{size}
use Rattle.laws_totals.specs.Totals.{exact_at, amount_at, bar_at, Given}
use Rattle.laws_totals.proofs.TotalLaws.{total-whole}
use Rattle.laws_totals.specs.Parts.{past_is, past_of, shown_of}

-- where what is shown sums to the exact part below the limits, the difference printed is what lies past them
module _ (it : Recipe) (xs : List Float) (cs : ℕ → ℕ → ℤ) (z : Given it xs cs) where
  pub past-whole : (limits : List ℕ) (p : ℕ) {shown : Float} → p < size it → 64 ≤ bar_at it xs cs p
      → Whole shown (shown_of limits (exact_at it xs cs p)) → nat_abs (past_of limits (exact_at it xs cs p)) ≤ 2 ^ 53
      → Whole (sub binary64 (amount_at it xs cs p) shown) (past_of limits (exact_at it xs cs p))
  past-whole limits p l o w h =
      let e = past_is limits (exact_at it xs cs p) in
      subst (Whole _) e (whole_sub (total-whole it xs cs z p l o) w (subst (λ (t : ℤ). nat_abs t ≤ 2 ^ 53) (sym e) h))
