-- Of a recipe that the check accepts: every operand stands before its step, what the places announce keeps the rules of
-- headers, and there are 64 places at most.
use Rattle.std.specs.Prelude.{ℕ, ◌+◌, ◌-◌, ◌≤◌, ◌<◌, true, List, ◌≡◌, ltb, length, get_or, take}
use Rattle.std.proofs.Common.{arith, ltb-true, ltb-false, eq-eqb}
use Rattle.lists.specs.Test.{decide}
use Rattle.model_recipes.specs.Steps.{step_of, uses_of}
use Rattle.model_recipes.specs.Recipe.{Recipe, up_to, input_heads, announced_places, announced_steps, total, largest}
use Rattle.model_recipes.specs.Check.{check_refusal, check_by, check_answer}
use Rattle.model_recipes.specs.Reasons.{StepReason, late_a, late_b, wrong_word, step}
use Rattle.recipes_kinds.specs.Known.{Known}
use Rattle.recipes_check.specs.Judged.{accepts, places-known}
use Rattle.recipes_laws.proofs.Exact.{check-exact}
use Rattle.recipes_laws.specs.Exact.{length-known}
use Rattle.laws_full.specs.Made.{Ordered}
use Rattle.model_recipes.specs.Results.{accepting}

module _ (it : Recipe) (z : (check_refusal it).number ≡ 0) where
  abbrev pool : ℕ
  pool = total (announced_steps it)

  abbrev most : ℕ
  most = largest (announced_steps it)

  accepted : check_answer it ≡ accepting pool most (total (input_heads it.headers))
  unfolding check_answer check_by
  accepted = rw (eq-eqb (check_refusal it).number 0 z)

  no-reason : (i n : ℕ) → i < length it.steps → StepReason it.edition (get_or it.steps i 0) (announced_places (up_to it i)) n → ⊥
  no-reason i n l x =
      (check-exact it).accepted _ _ _ accepted _ _ (step i n l (omega (arith, (accepts it z).sizes.fit)) x)

  -- an operand that names a later place would be a reason to refuse
  late-first : (i : ℕ) → i < length it.steps → (uses_of (step_of (get_or it.steps i 0)).kind).a ≡ true
      → length it.headers + i ≤ (step_of (get_or it.steps i 0)).a → ⊥
  unfolding announced_places
  late-first i l u h = no-reason i 7 l (wrong_word (late_a u (omega (arith, length-known it i l))))

  late-second : (i : ℕ) → i < length it.steps → (uses_of (step_of (get_or it.steps i 0)).kind).b ≡ true
      → length it.headers + i ≤ (step_of (get_or it.steps i 0)).b → ⊥
  unfolding announced_places
  late-second i l u h = no-reason i 7 l (wrong_word (late_b u (omega (arith, length-known it i l))))

  pub accepted-ordered : Ordered it.steps (length it.headers) (length it.headers + length it.steps)
  accepted-ordered =
      record {
        first = λ p i l u.
            let x : ℕ = (step_of (get_or it.steps (p - length it.headers) 0)).a in
            decide (ltb x p) (ltb-true _ _)
            (λ t. absurd (late-first (p - length it.headers) (omega arith) u (omega (arith, ltb-false x p t))));
        second = λ p i l u.
            let x : ℕ = (step_of (get_or it.steps (p - length it.headers) 0)).b in
            decide (ltb x p) (ltb-true _ _)
            (λ t. absurd (late-second (p - length it.headers) (omega arith) u (omega (arith, ltb-false x p t))));
      }

  pub accepted-known : Known (announced_places it)
  accepted-known = places-known it (accepts it z).inputs

  pub accepted-few : length it.headers + length it.steps ≤ 64
  accepted-few = (accepts it z).sizes.fit
