-- Two outcomes of the check, and of the run with its buffers of floats and of words, are equal (document 01, 'What each
-- answer owes').
use Rattle.std.specs.Prelude.{ℕ, List, ◌≡◌, Float}
use Rattle.model_recipes.specs.Recipe.{Recipe}
use Rattle.model_recipes.specs.Promises.{CheckPromise, RunPromise}
use Rattle.model_recipes.specs.Results.{CheckAnswer}
use Rattle.model_recipes.specs.Results.{RunAnswer}
use Rattle.laws_outcomes.specs.Outcome.{once_1, once_4}

pub check-once : (it : Recipe) {r1 r2 : CheckAnswer}
    → CheckPromise it r1 → CheckPromise it r2
    → r1 ≡ r2
check-once it p1 p2 = once_1 p1 p2

pub run-once : (it : Recipe) (coefficients : List Float) (pool : List Float) (words : List ℕ)
    (scratch : List Float) {r1 r2 : RunAnswer} {pool1 pool2 scratch1 scratch2 : List Float} {words1 words2 : List ℕ}
    → RunPromise it coefficients pool words scratch r1 pool1 words1 scratch1 → RunPromise it
    coefficients pool words scratch r2 pool2 words2 scratch2
    → (r1 ≡ r2) × ((pool1 ≡ pool2) × ((words1 ≡ words2) × (scratch1 ≡ scratch2)))
run-once it coefficients pool words scratch p1 p2 = once_4 p1 p2
