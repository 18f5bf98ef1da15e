-- Of a sheet that is not refused: every operand stands before its step. So the place that is named for a limit is where
-- the limit comes from, and the place that is named as going further goes furthest of all that the answer is made from.
use Rattle.std.specs.Prelude.{ℕ, ◌+◌, ◌-◌, ◌≤◌, ◌<◌, List, ◌≡◌, ltb, length, get_or, take}
use Rattle.std.proofs.Common.{arith, ltb-true, ltb-false, eq-eqb}
use Rattle.lists.specs.Test.{decide}
use Rattle.model.specs.declared.Header.{Header}
use Rattle.model.specs.Header.{limit}
use Rattle.model_recipes.specs.Steps.{step_of}
use Rattle.model_recipes.specs.Recipe.{Recipe, up_to, head_at, input_heads, announced_places, announced_steps, total, largest}
use Rattle.model_recipes.specs.Check.{check_refusal, check_by, check_answer}
use Rattle.model_recipes.specs.Reasons.{Shifts, StepReason, late_a, late_b, wrong_word, large_n, step}
use Rattle.model_texts.specs.Sheet.{input_count, step_count, sheet_steps, sheet_recipe, recipe_refusal, read_refusal, sheet_refusal}
use Rattle.model_texts.specs.Trace.{step_word, limit_at, decider, furthest}
use Rattle.shape_words.specs.Rules.{ruled-at}
use Rattle.recipes_kinds.specs.Known.{small-variable}
use Rattle.recipes_check.specs.Asks.{or-none}
use Rattle.recipes_laws.proofs.Exact.{check-exact}
use Rattle.recipes_laws.specs.Exact.{length-known}
use Rattle.recipes_check.specs.Judged.{accepts, places-known}
use Rattle.sheet_solving.specs.Opened.{headers-many, steps-many}
use Rattle.report_trace.specs.Laws.{Operand, first, second}
use Rattle.report_trace.specs.Ends.{Ordered, Ends, decider-ends}
use Rattle.report_trace.specs.Furthest.{Made, furthest-made, furthest-most}
use Rattle.model_recipes.specs.Results.{accepting}

module _ (it : Recipe) (z : (check_refusal it).number ≡ 0) where
  accepted : check_answer it ≡ accepting (total (announced_steps it)) (largest (announced_steps it)) (total (input_heads it.headers))
  unfolding check_answer check_by
  accepted = rw (eq-eqb (check_refusal it).number 0 z)

  no-reason : (i n : ℕ) → i < length it.steps → StepReason it.edition (get_or it.steps i 0) (announced_places (up_to it i)) n → ⊥
  no-reason i n l x = (check-exact it).accepted _ _ _ accepted _ _ (step i n l (omega (arith, (accepts it z).sizes.fit)) x)

  -- no operand names a later place: that would be a reason to refuse
  not_late : (i x : ℕ) → i < length it.steps → Operand (get_or it.steps i 0) x → length it.headers + i ≤ x → ⊥
  unfolding announced_places
  not_late i x l (first u e) h = no-reason i 7 l (wrong_word (late_a u (omega (arith, length-known it i l, e))))
  not_late i x l (second u e) h = no-reason i 7 l (wrong_word (late_b u (omega (arith, length-known it i l, e))))

  pub check-ordered : Ordered it.steps (length it.headers) (length it.headers + length it.steps)
  check-ordered =
      record {
        before =
            λ p x a l o. decide (ltb x p) (λ t. ltb-true _ _ t)
            (λ t. absurd (not_late (p - length it.headers) x (omega arith) o (omega (arith, ltb-false x p t))));
      }

  -- n of a shift is below a limit
  pub shift-below : (i : ℕ) → i < length it.steps → Shifts (get_or it.steps i 0)
      → (step_of (get_or it.steps i 0)).n < limit (head_at (announced_places (up_to it i)) (step_of (get_or it.steps i 0)).a)
      (step_of (get_or it.steps i 0)).variable
  shift-below i l s =
      let w : ℕ = get_or it.steps i 0 in
      let most = limit (head_at (announced_places (up_to it i)) (step_of w).a) (step_of w).variable in
      decide (ltb (step_of w).n most)
      (λ t. ltb-true (step_of w).n most t)
      (λ t. absurd (no-reason i 4 l (large_n (λ x. no-reason i 7 l (wrong_word x)) s (ltb-false _ _ t))))

  pub shift_short : (i : ℕ) → i < length it.steps → Shifts (get_or it.steps i 0) → (step_of (get_or it.steps i 0)).n < 64
  shift_short i l s =
      let w : ℕ = get_or it.steps i 0 in
      let known = ((places-known (up_to it i) (accepts it z).inputs).at (step_of w).a).rules in
      omega (arith, shift-below i l s, (ruled-at known (step_of w).variable (small-variable w)).most)

module _ (t : List ℕ) (z : (sheet_refusal t).number ≡ 0) where
  pub check-none : (check_refusal (sheet_recipe t)).number ≡ 0
  unfolding sheet_refusal recipe_refusal
  check-none = (or-none (check_refusal (sheet_recipe t)) _ (or-none (read_refusal t) _ z).1).0

  pub sheet-ordered : Ordered (sheet_steps t) (input_count t) (input_count t + step_count t)
  unfolding sheet_recipe
  sheet-ordered = rw (headers-many t, steps-many t) at (check-ordered (sheet_recipe t) check-none)

  pub sheet-short : (p : ℕ) → input_count t ≤ p → p < input_count t + step_count t
      → Shifts (step_word (sheet_steps t) (input_count t) p) → (step_of (step_word (sheet_steps t) (input_count t) p)).n < 64
  unfolding sheet_recipe
  sheet-short p a l s = shift_short (sheet_recipe t) check-none (p - input_count t) (omega (arith, steps-many t)) s

  pub few : input_count t + step_count t ≤ 64
  unfolding sheet_recipe
  few = omega (arith, (accepts (sheet_recipe t) check-none).sizes.fit, headers-many t, steps-many t)

  module _ (v p : ℕ) (l : p < input_count t + step_count t) where
    abbrev known : List Header
    known = announced_places (sheet_recipe t)

    -- the place named for a limit is an input, or a step none of whose operands has the limit
    pub sheet-decider : Ends known v (sheet_steps t) (input_count t) (decider known v (sheet_steps t) (input_count t) p)
    sheet-decider = decider-ends known v (sheet_steps t) (input_count t) sheet-ordered few p l

    -- the place named as going further is one that the place p is made from, and no other goes further
    pub sheet-furthest : Made known v (sheet_steps t) (input_count t) p (furthest known v (sheet_steps t) (input_count t) p)
    sheet-furthest = furthest-made known v (sheet_steps t) (input_count t) sheet-ordered p l

    pub sheet-most : (q : ℕ) → Made known v (sheet_steps t) (input_count t) p q
        → limit_at known v q ≤ limit_at known v (furthest known v (sheet_steps t) (input_count t) p)
    sheet-most q m = furthest-most known v (sheet_steps t) (input_count t) sheet-ordered l m
