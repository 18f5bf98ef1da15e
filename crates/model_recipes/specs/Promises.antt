-- REFERENCE 5.4, 6.4, 6.5. Document 01, 'What each answer owes': the promises of `check` and `run`.
use Rattle.std.specs.Prelude.{ℕ, List, ◌≡◌, Float}
use Rattle.model_recipes.specs.Recipe.{Recipe}
use Rattle.model_recipes.specs.Check.{check_answer}
use Rattle.model_recipes.specs.Run.{run_answer, run_pool, run_scratch, run_words}
use Rattle.model_recipes.specs.Results.{CheckAnswer}
use Rattle.model_recipes.specs.Results.{RunAnswer}

abbrev pub CheckPromise : Recipe → CheckAnswer → Type 0
CheckPromise it r =
    r ≡ check_answer it

abbrev pub RunPromise : Recipe → List Float → List Float → List ℕ → List Float → RunAnswer → List Float → List ℕ → List Float → Type 0
RunPromise it coefficients pool words scratch r pool' words' scratch' =
    (r ≡ run_answer it coefficients pool words scratch)
    × ((pool' ≡ run_pool it coefficients pool words scratch)
    × ((words' ≡ run_words it coefficients pool words scratch)
    × (scratch' ≡ run_scratch it coefficients pool words scratch)))
