-- REFERENCE 6.6. Document 02, W4: the check of a recipe whose pool is placed so, what its run asks of lent buffers, and
-- what such a run leaves of the pool when it is done.
use Rattle.std.specs.Prelude.{Err, ℕ, ◌+◌, ◌-◌, ◌*◌, ◌&&◌, cond, List, ◌≡◌, leb, length, drop, Float}
use Rattle.lists.specs.Part.{part}
use Rattle.model.specs.declared.Refusal.{Refusal}
use Rattle.model.specs.Header.{stored}
use Rattle.model.specs.Refusals.{ask, no_refusal, is_none, padded}
use Rattle.model_recipes.specs.Recipe.{Recipe, head_at, input_heads, announced_steps, total, largest}
use Rattle.model_recipes.specs.Check.{check_refusal}
use Rattle.model_recipes.specs.Run.{value_at, step_values}
use Rattle.model_placing.specs.Results.{ReuseAnswer, accepting}
use Rattle.model_placing.specs.Placing.{pool_needed, last_offset}

-- which case of the enum stands for which numbers
unfoldable pub reuse_by : Refusal → ℕ → ℕ → ℕ → ℕ → ReuseAnswer
reuse_by r pool most inputs last = cond (is_none r) (accepting pool most inputs last) (Err r)

-- it refuses as the check does
unfoldable pub check_reuse_answer : Recipe → ReuseAnswer
check_reuse_answer it =
    reuse_by (check_refusal it) (pool_needed it) (largest (announced_steps it)) (total (input_heads it.headers)) (last_offset it)

abbrev pub CheckReusePromise : Recipe → ReuseAnswer → Type 0
CheckReusePromise it r =
    r ≡ check_reuse_answer it

-- 2, 5, 6: by the lengths of coefficients, pool, words and scratch; 5 is against the new length
unfoldable pub lent_reuse_refusal : Recipe → ℕ → ℕ → ℕ → ℕ → Refusal
lent_reuse_refusal it c p w s =
    ask (leb (total (input_heads it.headers)) c) 2
    (ask (leb (pool_needed it) p && leb (length it.steps) w) 5
    (ask (leb (8 * largest (announced_steps it)) s) 6
    no_refusal))

-- the last step, and the count that it announces
abbrev pub last_step : Recipe → ℕ
last_step it = length it.steps - 1

abbrev pub last_count : Recipe → ℕ
last_count it = stored (head_at (announced_steps it) (last_step it))

-- the pool after a run that is done: the last value in its part, then +0.0; places below the length that are not its
-- own are unspecified; those at or past the length are as they were
pub record ReusedPool (it : Recipe) (cs pool pool' : List Float) : Type 0 where
  pub len : length pool' ≡ length pool
  pub last : part (last_offset it) (last_offset it + last_count it) pool' ≡ padded (last_count it) (value_at (step_values it cs) (last_step it)).coeffs
  pub rest : drop (pool_needed it) pool' ≡ drop (pool_needed it) pool
