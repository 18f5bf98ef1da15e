-- REFERENCE 6.4, 6.5. Document 01, 'Recipes' and 'Refusal numbers', and document 02, W5: the reasons to refuse a
-- recipe, each with its place and its number, and those to refuse a run of it; what a reason is, and not how it is
-- found.
-- Sizes are at no place in particular: 64. A recipe has at most 64 places. 3, 4 and 5 are reasons of a step whose word
-- is right.
use Rattle.std.specs.Prelude.{ℕ, suc, ◌+◌, ◌*◌, ◌≤◌, ◌<◌, List, true, false, cond, ◌≡◌, eqb, length, get_or}
use Rattle.model.specs.declared.Header.{Header}
use Rattle.model.specs.declared.Refusal.{Refusal}
use Rattle.model.specs.Header.{limit, stored}
use Rattle.model.specs.Causes.{HeaderReason, FirstHeaderReason}
use Rattle.model.specs.Refusals.{refused_by}
use Rattle.model_recipes.specs.Steps.{step_of, spare_of, uses_of}
use Rattle.model_recipes.specs.Recipe.{Recipe, up_to, head_at, announced_step, input_heads, announced_places, announced_steps, total, largest}

-- 7: 0 to 16 inputs, 1 or more steps, together at most 64 places
pub data WrongSizes (it : Recipe) : Type 0 where
  -- document 02, W7
  no_edition : 1 < it.edition → WrongSizes it
  many_inputs : 16 < length it.headers → WrongSizes it
  no_step : length it.steps ≡ 0 → WrongSizes it
  many_places : 64 < length it.headers + length it.steps → WrongSizes it

-- 7, in the step word w at the place p: no such kind; an operand that names no earlier place; a field that its kind
-- does not use; the last bits
pub data WrongWord (w p : ℕ) : Type 0 where
  no_kind : 11 < (step_of w).kind → WrongWord w p
  late_a : (uses_of (step_of w).kind).a ≡ true → p ≤ (step_of w).a → WrongWord w p
  late_b : (uses_of (step_of w).kind).b ≡ true → p ≤ (step_of w).b → WrongWord w p
  unused_a : (uses_of (step_of w).kind).a ≡ false → 0 < (step_of w).a → WrongWord w p
  unused_b : (uses_of (step_of w).kind).b ≡ false → 0 < (step_of w).b → WrongWord w p
  unused_variable : (uses_of (step_of w).kind).variable ≡ false → 0 < (step_of w).variable → WrongWord w p
  unused_n : (uses_of (step_of w).kind).n ≡ false → 0 < (step_of w).n → WrongWord w p
  spare_bits : 0 < spare_of w → WrongWord w p

-- `derivative`, `taylor_expansion_of_coeff`, `shift_down`: a variable, and n to lower its limit by
pub record Shifts (w : ℕ) : Type 0 where
  pub from : 7 ≤ (step_of w).kind
  pub to : (step_of w).kind ≤ 9

-- the numbers of a step's reasons in the edition e, known what the places before it announce
pub data StepReason (e w : ℕ) (known : List Header) : ℕ → Type 0 where
  wrong_word : WrongWord w (length known) → StepReason e w known 7
  -- the variable is not below the number of variables
  no_variable : (WrongWord w (length known) → ⊥) → Shifts w → (head_at known (step_of w).a).vars ≤ (step_of w).variable → StepReason e w known 3
  -- n is not below the limit
  large_n : (WrongWord w (length known) → ⊥) → Shifts w → limit (head_at known (step_of w).a) (step_of w).variable ≤ (step_of w).n → StepReason e w known 4
  large_count : (WrongWord w (length known) → ⊥) → 4096 < stored (announced_step e w known) → StepReason e w known 5

-- place and number
pub data Reason (it : Recipe) : ℕ → ℕ → Type 0 where
  sizes : WrongSizes it → Reason it 64 7
  -- a header that breaks the rules: something is wrong with variable v of it, or with none, by the cause c
  input : (i v c : ℕ) → i < length it.headers → i < 64 → HeaderReason (get_or it.headers i 0) v c → Reason it i 1
  step : (i n : ℕ) → i < length it.steps → length it.headers + i < 64 → StepReason it.edition (get_or it.steps i 0) (announced_places (up_to it i)) n
      → Reason it (length it.headers + i) n

-- sizes come first, then the places in order
abbrev pub turn : ℕ → ℕ
turn p = cond (eqb p 64) 0 (suc p)

-- the first place that has a reason, with its lowest number; with 1 the first variable and cause of that header, with
-- any other number 0 and 0 (document 02, W5)
pub record FirstReason (it : Recipe) (r : Refusal) : Type 0 where
  pub reason : Reason it r.place r.number
  pub first : (p n : ℕ) → Reason it p n → turn r.place ≤ turn p
  pub lowest : (n : ℕ) → Reason it r.place n → r.number ≤ n
  pub fault : r.number ≡ 1 → FirstHeaderReason (get_or it.headers r.place 0) r.variable r.cause
  pub without_fault : (r.number ≡ 1 → ⊥) → (r.variable ≡ 0) × (r.cause ≡ 0)

-- ---- a run, c, p, w and s the lengths of coefficients, pool, words and scratch

abbrev pub NoReason : Recipe → Type 0
NoReason it = (p n : ℕ) → Reason it p n → ⊥

-- the check's refusal; where there is none, 2, 5, 6, each where those before it do not apply
pub data RunReason (it : Recipe) (c p w s : ℕ) : Refusal → Type 0 where
  of_check : (r : Refusal) → FirstReason it r → RunReason it c p w s r
  few_coefficients : NoReason it → c < total (input_heads it.headers) → RunReason it c p w s (refused_by 2)
  short_pool : NoReason it → total (input_heads it.headers) ≤ c → p < total (announced_steps it) → RunReason it c p w s (refused_by 5)
  few_words : NoReason it → total (input_heads it.headers) ≤ c → w < length it.steps → RunReason it c p w s (refused_by 5)
  short_scratch : NoReason it → total (input_heads it.headers) ≤ c → total (announced_steps it) ≤ p → length it.steps ≤ w
      → s < 8 * largest (announced_steps it) → RunReason it c p w s (refused_by 6)
