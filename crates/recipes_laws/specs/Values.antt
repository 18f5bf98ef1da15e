-- The values of all places, where the check accepts and the inputs have their coefficients: they follow what was
-- announced, inputs first, and each step's is its operation's of its operands' values.
use Rattle.std.specs.Prelude.{ℕ, ◌+◌, ◌*◌, ◌≤◌, ◌<◌, ◌≡◌, length, get_or, Float}
use mathlib.Core.List.{List}
use Rattle.std.proofs.Common.{sym, ◌∙◌, arith}
use Rattle.std.proofs.Math.Path.{ap}
use Rattle.std.proofs.Math.ListN.{take}
use Rattle.std.proofs.lemmas.List.{length-map}
use Rattle.std.proofs.Math.Seq.{get_or-take, take_all}
use Rattle.lists.specs.Chain.{chain, chain-keeps, chain-take}
use Rattle.model.specs.Word.{header_of}
use Rattle.model.specs.Poly.{Poly}
use Rattle.model_recipes.specs.Steps.{step_of}
use Rattle.model_recipes.specs.Recipe.{Recipe, up_to, input_heads, announced_places, announced_steps, total, largest}
use Rattle.model_recipes.specs.Check.{check_refusal}
use Rattle.model_recipes.specs.Run.{input_values, no_value, value_at, step_value, values}
use Rattle.recipes_laws.specs.Exact.{length-known}
use Rattle.recipes_laws.specs.Follows.{Follows, length-inputs}
use Rattle.recipes_laws.specs.Ahead.{ahead-at, clear_at_lem, value_at_lem}
use Rattle.recipes_laws.specs.Demand.{Computed}
use Rattle.recipes_laws.specs.Computes.{computed}

module _ (it : Recipe) (cs : List Float) {m : ℕ} (none : (check_refusal it).number ≡ 0) (full : total (input_heads it.headers) ≤ length cs)
    (room : 8 * largest (announced_steps it) ≤ m) where
  pub follows-all : Follows (announced_places it) (values it cs)
  follows-all = rw (take_all (length it.steps) it.steps (omega arith)) at (ahead-at it cs none full room (length it.steps)).now

  count-inputs : length (input_values it.headers cs) ≡ length it.headers
  count-inputs = length-inputs it.headers cs ∙ length-map it.headers header_of

  -- the places before the step number i
  earlier : (i : ℕ) → i < length it.steps → (q : ℕ) → q < length it.headers + i → value_at (values (up_to it i) cs) q ≡ value_at (values it cs) q
  unfolding values
  earlier i l q h =
      let e : take (length it.headers + i) (chain (step_value it.edition) (input_values it.headers cs) it.steps)
      ≡ chain (step_value it.edition) (input_values it.headers cs) (take i it.steps) =
      ap (λ (k : ℕ). take (k + i) (chain (step_value it.edition) (input_values it.headers cs) it.steps)) (sym count-inputs)
      ∙ chain-take (step_value it.edition) (input_values it.headers cs) it.steps i (omega arith) in
      ap (λ (x : List Poly). value_at x q) (sym e) ∙ get_or-take (length it.headers + i) (values it cs) q no_value h

  pub step-computed : (i : ℕ) → i < length it.steps
      → Computed it.edition (step_of (get_or it.steps i 0)) (length it.headers + i) (value_at (values it cs))
      (value_at (values it cs) (length it.headers + i))
  unfolding announced_places
  step-computed i l =
      let c = clear_at_lem it cs none full room i l in
      rw (value_at_lem it i l cs)
      (computed it.edition (get_or it.steps i 0) (length it.headers + i) (values (up_to it i) cs) (values it cs)
      (rw (length-known it i l) at c.formed) (earlier i l))

  pub inputs-first : take (length it.headers) (values it cs) ≡ input_values it.headers cs
  unfolding values
  inputs-first =
      chain-keeps (step_value it.edition) (input_values it.headers cs) it.steps (length it.headers) (omega (arith, count-inputs))
      ∙ take_all (length it.headers) (input_values it.headers cs) (omega (arith, count-inputs))
