-- How a stop is found (`run_stop`) and what it is (`FirstStop`) are the same: 12 at the first step that stops the run,
-- and nothing where none does.
use Prim.Native.Nat.{ℕ, zero, suc, ◌+◌, ◌≤◌, ◌<◌}
use Rattle.std.specs.Prelude.{Bool, not, refl, eqb, ltb, get_or, take, Float}
use Rattle.std.proofs.Math.Bool.{true, false}
use mathlib.Core.List.{List, [], ◌∷◌, ◌++◌}
use Rattle.std.proofs.Math.Path.{◌≡◌}
use Rattle.std.proofs.Common.{ap, ◌∙◌}
use native.Mathlib.Omega.{arith}
use Rattle.std.proofs.Math.ListN.{length}
use Rattle.std.proofs.lemmas.List.{length-map}
use borrow.Author.Tests.{eqb-true, eq-eqb, ltb-true, ltb-false, not-true}
use Rattle.lists.specs.Test.{decide, and_left, and_right}
use Rattle.lists.specs.Chain.{chain}
use Rattle.lists.specs.Grow.{length_snoc}
use Rattle.model.specs.declared.Refusal.{Refusal}
use Rattle.model.specs.Word.{header_of}
use Rattle.model.specs.Refusals.{refused_at, no_refusal}
use Rattle.model.specs.Poly.{Poly}
use Rattle.model_exponential.specs.Step.{has_exponential}
use Rattle.model_recipes.specs.Steps.{step_of}
use Rattle.model_recipes.specs.Recipe.{Recipe}
use Rattle.model_recipes.specs.Run.{input_values, value_at, step_value, values, step_stops, stop_from, run_stop}
use Rattle.model_recipes.specs.Stops.{Stops, FirstStop}
use Rattle.gates.specs.Small.{Small, at_small}
use Rattle.recipes_laws.specs.Follows.{length-inputs}

-- ---- one step, vs the values of the places before it

module _ (w : ℕ) (vs : List Poly) where
  abbrev of : Bool
  of = eqb (step_of w).kind 11

  abbrev has : Bool
  has = has_exponential (value_at vs (step_of w).a)

  pub stops-yes : step_stops w vs ≡ true → Stops w vs
  unfolding step_stops
  stops-yes e = record { of_kind = eqb-true (step_of w).kind 11 (and_left of (not has) e); outside = not-true has (and_right of (not has) e) }

  pub stops_no : step_stops w vs ≡ false → Stops w vs → ⊥
  unfolding step_stops
  stops_no e s = no (rw (eq-eqb (step_of w).kind 11 s.of_kind, s.outside) at e)
    where
      no : true ≡ false → ⊥
      no z = let y : ◌≡◌ {A = ℕ} 0 1 = cc in omega arith

-- ---- the steps ws in the edition e, after the places whose values are vs

module _ (e : ℕ) where
  -- the step number i of them
  abbrev At : List Poly → List ℕ → ℕ → Type 0
  At vs ws i = Stops (get_or ws i 0) (chain (step_value e) vs (take i ws))

  data Found (vs : List Poly) (ws : List ℕ) : Refusal → Type 0 where
    never : ((j : ℕ) → j < length ws → At vs ws j → ⊥) → Found vs ws no_refusal
    first : (i : ℕ) → i < length ws → At vs ws i → ((j : ℕ) → j < i → At vs ws j → ⊥) → Found vs ws (refused_at 12 (length vs + i))

  module _ (vs : List Poly) (w : ℕ) (ws : List ℕ) where
    abbrev next : List Poly
    next = vs ++ (step_value e w vs ∷ [])

    past_first : (Stops w vs → ⊥) → {n : ℕ} → ((j : ℕ) → j < n → At next ws j → ⊥) → (j : ℕ) → j < suc n → At vs (w ∷ ws) j → ⊥
    unfolding chain
    past_first f g zero l s = f s
    past_first f g (suc j) l s = g j (omega arith) s

    found-next : (Stops w vs → ⊥) → {r : Refusal} → Found next ws r → Found vs (w ∷ ws) r
    unfolding chain
    found-next f (never g) = never (past_first f g)
    found-next f (first i l s g) =
        let p : length vs + suc i ≡ length next + i = omega (arith, length_snoc vs (step_value e w vs)) in
        rw (← p) (first (suc i) (omega arith) s (past_first f g))

    found_here : Stops w vs → Found vs (w ∷ ws) (refused_at 12 (length vs))
    unfolding chain
    found_here s =
        let p : length vs + 0 ≡ length vs = omega arith in
        rw (← p) (first 0 (omega arith) s (λ j l. absurd (omega arith)))

  found : (vs : List Poly) (ws : List ℕ) → Found vs ws (stop_from e vs ws)
  unfolding stop_from
  found vs [] = never (λ j l. absurd (omega arith))
  found vs (w ∷ ws) =
      decide (step_stops w vs)
      (λ t. rw t (found_here vs w ws (stops-yes w vs t)))
      (λ t. rw t (found-next vs w ws (stops_no w vs t) (found (vs ++ (step_value e w vs ∷ [])) ws)))

-- ---- a recipe, cs its inputs' coefficients

module _ (it : Recipe) (cs : List Float) where
  count-inputs : length (input_values it.headers cs) ≡ length it.headers
  count-inputs = length-inputs it.headers cs ∙ length-map it.headers header_of

  -- there is one first stop at most
  one-first : (i j : ℕ) → FirstStop it cs i → FirstStop it cs j → i ≡ j
  one-first i j a b =
      decide (ltb i j)
      (λ t. absurd (b.first i (ltb-true i j t) a.stops))
      (λ t. decide (ltb j i)
      (λ u. absurd (a.first j (ltb-true j i u) b.stops))
      (λ u. omega (arith, ltb-false i j t, ltb-false j i u)))

  -- a stop that is found
  pub data Stopping : Refusal → Type 0 where
    goes_on : ((i : ℕ) → FirstStop it cs i → ⊥) → Stopping no_refusal
    stops : (i : ℕ) → FirstStop it cs i → Stopping (refused_at 12 (length it.headers + i))

  by-found : {r : Refusal} → Found it.edition (input_values it.headers cs) it.steps r → Stopping r
  unfolding values
  by-found (never f) = goes_on (λ i s. f i s.among s.stops)
  by-found (first i l s f) = rw count-inputs (stops i (record { among = l; stops = s; first = f }))

  pub stopping : Stopping (run_stop it cs)
  unfolding run_stop
  stopping = by-found (found it.edition (input_values it.headers cs) it.steps)

  at-by : {r : Refusal} → Stopping r → (i : ℕ) → FirstStop it cs i → r ≡ refused_at 12 (length it.headers + i)
  at-by (goes_on f) i s = absurd (f i s)
  at-by (stops j t) i s = ap (λ (n : ℕ). refused_at 12 (length it.headers + n)) (one-first j i t s)

  none-by : {r : Refusal} → Stopping r → ((i : ℕ) → FirstStop it cs i → ⊥) → r ≡ no_refusal
  none-by (goes_on f) n = refl
  none-by (stops j t) n = absurd (n j t)

  pub stop-at : (i : ℕ) → FirstStop it cs i → run_stop it cs ≡ refused_at 12 (length it.headers + i)
  stop-at = at-by stopping

  pub stop-none : ((i : ℕ) → FirstStop it cs i → ⊥) → run_stop it cs ≡ no_refusal
  stop-none = none-by stopping

  small_by : {r : Refusal} → Stopping r → length it.headers + length it.steps ≤ 64 → Small 12 64 r
  small_by (goes_on f) l = at_small 0 64 (omega arith) (omega arith)
  small_by (stops i t) l = at_small 12 (length it.headers + i) (omega arith) (omega (arith, t.among))

  pub stop-small : length it.headers + length it.steps ≤ 64 → Small 12 64 (run_stop it cs)
  stop-small = small_by stopping
