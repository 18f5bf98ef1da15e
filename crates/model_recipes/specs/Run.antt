-- REFERENCE 6.5. Document 01, 'Recipes' and 'Refusal numbers', and document 02, W13: the run of a recipe. Each step's
-- value is its operation's, of its operands' values (demand 2); steps work on true headers. The run makes the check,
-- then tests 2, 5, 6. When done, step values lie end to end in the pool at announced counts, true headers go to the
-- buffer of words, one per step, the scratch's first 8 times the largest count are +0.0, and the rest is untouched. A
-- refusal before the first step changes no buffer. A step that stops the run (12) leaves +0.0 and 0 in their places.
use Rattle.std.specs.Prelude.{Ok, Err, ℕ, ◌*◌, List, [], ◌∷◌, ◌++◌, map, Bool, ◌&&◌, not, cond, leb, eqb, length, drop, get_or, Float}
use Rattle.lists.specs.Chain.{chain}
use Rattle.lists.specs.Table.{table}
use Rattle.model.specs.declared.Header.{Header}
use Rattle.model.specs.declared.Refusal.{Refusal}
use Rattle.model_recipes.specs.declared.Step.{Step}
use Rattle.model_recipes.specs.Results.{RunAnswer}
use Rattle.model.specs.Header.{no_header, stored}
use Rattle.model.specs.Word.{header_of, word_of}
use Rattle.model.specs.Refusals.{ask, refused_at, no_refusal, is_none, zero_f, zeros, padded, cleared}
use Rattle.model.specs.Poly.{Poly, held}
use Rattle.model.specs.Constructed.{constant}
use Rattle.model_exponential.specs.Step.{has_exponential}
use Rattle.model_recipes.specs.Kinds.{kinds}
use Rattle.model_recipes.specs.Steps.{step_of}
use Rattle.model_recipes.specs.Recipe.{Recipe, input_heads, announced_steps, total, largest}
use Rattle.model_recipes.specs.Check.{or_else, check_refusal}

-- the inputs, whose coefficients lie end to end
unfoldable pub input_values : List ℕ → List Float → List Poly
input_values [] cs = []
input_values (w ∷ ws) cs = held w cs ∷ input_values ws (drop (stored (header_of w)) cs)

-- what each kind computes in the edition e
unfoldable pub operations : ℕ → Step → Poly → Poly → List Poly
operations e s a b = map (λ k. k.value s a b) (kinds e)

abbrev pub no_value : Poly
no_value = constant no_header zero_f

abbrev pub value_at : List Poly → ℕ → Poly
value_at vs p = get_or vs p no_value

-- the step w in the edition e, vs the values of the places before it
unfoldable pub step_value : ℕ → ℕ → List Poly → Poly
step_value e w vs = let s = step_of w in get_or (operations e s (value_at vs s.a) (value_at vs s.b)) s.kind no_value

-- all places, and the steps
unfoldable pub values : Recipe → List Float → List Poly
values it cs = chain (step_value it.edition) (input_values it.headers cs) it.steps

unfoldable pub step_values : Recipe → List Float → List Poly
step_values it cs = drop (length it.headers) (values it cs)

-- whether an operation would refuse its operands, with n places for the result and m of scratch; no run asks it
-- (`none-refuses`, recipes_laws)
unfoldable pub gates : ℕ → Step → Poly → Poly → ℕ → ℕ → List Refusal
gates e s a b n m = map (λ k. k.gate s a b n m) (kinds e)

unfoldable pub step_gate : ℕ → ℕ → List Poly → ℕ → ℕ → Refusal
step_gate e w vs n m = let s = step_of w in get_or (gates e s (value_at vs s.a) (value_at vs s.b) n m) s.kind no_refusal

-- ---- a stop (document 02, W13)

-- whether the step w stops the run, vs the values of the places before it
unfoldable pub step_stops : ℕ → List Poly → Bool
step_stops w vs = let s = step_of w in eqb s.kind 11 && not (has_exponential (value_at vs s.a))

-- the first of the steps ws that does, after the places whose values are vs
unfoldable pub stop_from : ℕ → List Poly → List ℕ → Refusal
stop_from e vs [] = no_refusal
stop_from e vs (w ∷ ws) = cond (step_stops w vs) (refused_at 12 (length vs)) (stop_from e (vs ++ (step_value e w vs ∷ [])) ws)

unfoldable pub run_stop : Recipe → List Float → Refusal
run_stop it cs = stop_from it.edition (input_values it.headers cs) it.steps

-- ---- the end of a run

-- 2, 5, 6: by the lengths of coefficients, pool, words and scratch
unfoldable pub lent_refusal : Recipe → ℕ → ℕ → ℕ → ℕ → Refusal
lent_refusal it c p w s =
    ask (leb (total (input_heads it.headers)) c) 2
    (ask (leb (total (announced_steps it)) p && leb (length it.steps) w) 5
    (ask (leb (8 * largest (announced_steps it)) s) 6
    no_refusal))

-- values end to end at announced counts
unfoldable pub laid : List Header → List Poly → List Float
laid [] vs = []
laid (h ∷ known) [] = []
laid (h ∷ known) (v ∷ vs) = padded (stored h) v.coeffs ++ laid known vs

-- How a run ends: refused before its first step, stopped at a step, or done.
pub data RunEnd : Type 0 where
  refused : Refusal → RunEnd
  stopped : Refusal → RunEnd
  done : RunEnd

-- by the refusal before the first step, then by the stop
unfoldable pub end_by : Refusal → Refusal → RunEnd
end_by r s = cond (is_none r) (cond (is_none s) done (stopped s)) (refused r)

-- which case of the enum stands for which end
abbrev pub end_answer : RunEnd → RunAnswer
end_answer (refused r) = Err r
end_answer (stopped r) = Err r
end_answer done = (Ok tt)

-- what an end leaves of a lent buffer: as it was, with zeros, or with what the run made
abbrev pub after_run : {A : Type 0} → RunEnd → List A → List A → List A → List A
after_run (refused r) made none old = old
after_run (stopped r) made none old = none
after_run done made none old = made

-- a buffer of words with 0 in its first n
abbrev pub zero_words : ℕ → List ℕ → List ℕ
zero_words n words = table n (λ k. 0) ++ drop n words

-- a pool with +0.0 in its first n
abbrev pub zero_pool : ℕ → List Float → List Float
zero_pool n pool = zeros n ++ drop n pool

-- cs the inputs' coefficients, pool, words and scratch the buffers as they came
module _ (it : Recipe) (cs : List Float) (pool : List Float) (words : List ℕ) (scratch : List Float) where
  unfoldable pub run_refusal : Refusal
  run_refusal =
      or_else (check_refusal it)
      (lent_refusal it (length cs) (length pool) (length words) (length scratch))

  unfoldable pub run_end : RunEnd
  run_end = end_by run_refusal (run_stop it cs)

  unfoldable pub run_answer : RunAnswer
  run_answer = end_answer run_end

  unfoldable pub run_pool : List Float
  run_pool = after_run run_end (laid (announced_steps it) (step_values it cs) ++ drop (total (announced_steps it)) pool)
      (zero_pool (total (announced_steps it)) pool) pool

  unfoldable pub run_words : List ℕ
  run_words = after_run run_end (map (λ v. word_of v.head) (step_values it cs) ++ drop (length it.steps) words)
      (zero_words (length it.steps) words) words

  unfoldable pub run_scratch : List Float
  run_scratch = after_run run_end (cleared (largest (announced_steps it)) scratch) (cleared (largest (announced_steps it)) scratch) scratch
