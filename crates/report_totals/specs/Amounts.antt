-- Totals of steps and inputs, as the code works them out.
use Rattle.std.specs.Prelude.{ℕ, zero, suc, ◌-◌, ◌≤◌, ◌<◌, List, [], ◌∷◌, ◌≡◌, refl, Float, length, get_or, take, drop}
use Rattle.std.proofs.Common.{sym, ap, ◌∙◌, arith}
use Rattle.std.specs.Float.{nan}
use Rattle.std.proofs.Math.ListN.{get_or-eq_default}
use Rattle.model.specs.declared.Header.{Header}
use Rattle.model.specs.Header.{stored}
use Rattle.model.specs.Word.{header_of}
use Rattle.model.specs.Readings.{sum_to}
use Rattle.model_recipes.specs.declared.Step.{Step}
use Rattle.model_recipes.specs.Steps.{step_of}
use Rattle.model_recipes.specs.Recipe.{input_heads, total}
use Rattle.model_forecast.specs.Totals.{amount_of, bar_of, amount_step, bar_step, input_sum}
use Rattle.report_inputs.specs.Held.{rest-is}

pub inside_any : (xs : List Float) (p : ℕ) (d e : Float) → p < length xs → get_or xs p d ≡ get_or xs p e
inside_any [] p d e h = absurd (omega (arith, h))
inside_any (x ∷ xs) zero d e h = refl
inside_any (x ∷ xs) (suc p) d e h = inside_any xs p d e (omega arith)

pub past : (xs : List Float) (p : ℕ) (d : Float) → length xs ≤ p → d ≡ get_or xs p d
past xs p d h = sym (get_or-eq_default xs d {n = p} h)

pub amount-is : (w : ℕ) (xs : List Float) {s : Step} {x y r : Float} → s ≡ step_of w → x ≡ get_or xs s.a nan → y ≡ get_or xs s.b nan
    → r ≡ amount_of s x y → r ≡ amount_step w xs
unfolding amount_step
amount-is w xs es ex ey er = simp (er, ey, ex, es)

pub bar-is : (w : ℕ) (bs : List ℕ) {s : Step} {x y r : ℕ} → s ≡ step_of w → x ≡ get_or bs s.a 64 → y ≡ get_or bs s.b 64
    → r ≡ bar_of s (length bs) x y → r ≡ bar_step w bs
unfolding bar_step
bar-is w bs es ex ey er = simp (er, ey, ex, es)

pub sum_is : (hs : List ℕ) (cs : List Float) (i : ℕ) {from n : ℕ} {h : Header} {r : Float} → from ≡ total (input_heads (take i hs))
    → h ≡ header_of (get_or hs i 0) → n ≡ stored h → r ≡ sum_to (take (length cs - from) (drop from cs)) n → r ≡ input_sum hs cs i
unfolding input_sum
sum_is hs cs i {from} {n} {h} ef eh en er =
    er ∙ (ap (λ (l : List Float). sum_to l n) (rest-is cs from) ∙ rw (en, eh, ef) refl)

abbrev Not : ℕ → ℕ → Type 0
Not k n = k ≡ n → ⊥

-- the last arm of a `match` on a kind, behind arms for 0 to 4, 6 and 9
pub other_at : {A : Type 0} {B : Type 0} (d a0 a1 a2 a3 a4 a6 a9 : A) (k : ℕ)
    → (((((((B × Not k 0) × Not k 1) × Not k 2) × Not k 3) × Not k 4) × Not k 6) × Not k 9)
    → d ≡ get_or (a0 ∷ a1 ∷ a2 ∷ a3 ∷ a4 ∷ d ∷ a6 ∷ d ∷ d ∷ a9 ∷ []) k d
other_at d a0 a1 a2 a3 a4 a6 a9 zero r = absurd (r.0.0.0.0.0.0.1 refl)
other_at d a0 a1 a2 a3 a4 a6 a9 (suc zero) r = absurd (r.0.0.0.0.0.1 refl)
other_at d a0 a1 a2 a3 a4 a6 a9 (suc (suc zero)) r = absurd (r.0.0.0.0.1 refl)
other_at d a0 a1 a2 a3 a4 a6 a9 (suc (suc (suc zero))) r = absurd (r.0.0.0.1 refl)
other_at d a0 a1 a2 a3 a4 a6 a9 (suc (suc (suc (suc zero)))) r = absurd (r.0.0.1 refl)
other_at d a0 a1 a2 a3 a4 a6 a9 (suc (suc (suc (suc (suc zero))))) r = refl
other_at d a0 a1 a2 a3 a4 a6 a9 (suc (suc (suc (suc (suc (suc zero)))))) r = absurd (r.0.1 refl)
other_at d a0 a1 a2 a3 a4 a6 a9 (suc (suc (suc (suc (suc (suc (suc zero))))))) r = refl
other_at d a0 a1 a2 a3 a4 a6 a9 (suc (suc (suc (suc (suc (suc (suc (suc zero)))))))) r = refl
other_at d a0 a1 a2 a3 a4 a6 a9 (suc (suc (suc (suc (suc (suc (suc (suc (suc zero))))))))) r = absurd (r.1 refl)
other_at d a0 a1 a2 a3 a4 a6 a9 (suc (suc (suc (suc (suc (suc (suc (suc (suc (suc k)))))))))) r = refl
