-- REFERENCE 6.4, 9. Refusals 3, 4 and 5 at a step, document 01: the variable is not below the number of variables of
-- the operand a; n is not below its limit there; the announced count is above 4,096. The step w, known what the places
-- before it announce. A power of zero is never refused by 5, so edition 0's count serves for every edition.
use Rattle.std.specs.Prelude.{ℕ, cond, List, ◌++◌, eqb}
use Rattle.lists.specs.Bytes.{bytes}
use Rattle.model.specs.declared.Header.{Header}
use Rattle.model.specs.Header.{limit, stored}
use Rattle.model_texts.specs.Report.{tell}
use Rattle.model_recipes.specs.Steps.{step_of}
use Rattle.model_recipes.specs.Recipe.{head_at, announced_step}
use Rattle.model_faults.specs.Saying.{say, say_two}

-- m variables
unfoldable pub has_text : ℕ → List ℕ
has_text m = cond (eqb m 0) (bytes " has none.\n") (say " has " m ", counted from 0.\n")

unfoldable pub variable_cause : ℕ → List Header → List ℕ
variable_cause w known = let s = step_of w in tell "it names variable " s.variable ++ (tell "; place " s.a ++ has_text (head_at known s.a).vars)

unfoldable pub limit_cause : ℕ → List Header → List ℕ
limit_cause w known =
    let s = step_of w in
    tell "n is " s.n ++ say_two ", not below " (limit (head_at known s.a) s.variable) ", the limit of variable " s.variable ".\n"

unfoldable pub count_cause : ℕ → List Header → List ℕ
count_cause w known = say "it takes " (stored (announced_step 0 w known)) " coefficients; 4096 are the most.\n"
