-- No step of a run can refuse: where the check accepts, the inputs have their coefficients and the scratch is as long
-- as the check says, every step's operation lets its operands pass, by the gate that it has as an entry of its own: on
-- the operands' true headers, with the places that the step announces and the scratch that is lent.
-- Said of definitions of the room model alone, for all words and coefficients.
use Rattle.std.specs.Prelude.{ℕ, ◌+◌, ◌*◌, ◌≤◌, ◌<◌, List, ◌≡◌, length, take, get_or, Float}
use Rattle.std.proofs.Common.{arith}
use Rattle.model.specs.declared.Refusal.{Refusal}
use Rattle.model.specs.Header.{stored}
use Rattle.model_recipes.specs.Recipe.{Recipe, up_to, head_at, announced_places}
use Rattle.model_recipes.specs.Check.{check_answer}
use Rattle.model_recipes.specs.Run.{values, step_gate}
use Rattle.recipes_laws.specs.Passed.{step-passes}
use Rattle.recipes_laws.specs.Ahead.{announced-at, ready_at}
use Rattle.recipes_laws.specs.Numbers.{numbers}
use Rattle.model_recipes.specs.Results.{accepting}

-- cs the inputs' coefficients, m the places of scratch
module _ (it : Recipe) (cs : List Float) (m : ℕ) where
  -- the places that the step number i announces
  abbrev pub places : ℕ → ℕ
  places i = stored (head_at (announced_places it) (length it.headers + i))

  -- the gate of its operation, on the values of the places before it
  abbrev pub gate_at : ℕ → Refusal
  gate_at i = step_gate it.edition (get_or it.steps i 0) (values (up_to it i) cs) (places i) m

  pub none-refuses : (pool most inputs : ℕ) → check_answer it ≡ accepting pool most inputs → inputs ≤ length cs → 8 * most ≤ m
      → (i : ℕ) → i < length it.steps → (gate_at i).number ≡ 0
  none-refuses pool most inputs e full room i l =
      let n = numbers it pool most inputs e in
      let ready = ready_at it cs {m = m} n.none (omega (arith, n.inputs_are)) (omega (arith, n.most_is)) i l in
      rw (announced-at it i l) (step-passes it.edition (get_or it.steps i 0) (values (up_to it i) cs) _ m ready)
