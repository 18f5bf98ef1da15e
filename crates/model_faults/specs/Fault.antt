-- REFERENCE 9. What a person reads where a sheet is refused: the line that `recipe` prints, then one sentence: which
-- line of the sheet, which place, and the cause, with what to write instead. The refusal's number and place say which
-- of document 01's tests it was, and so which sentence it is.
use Rattle.std.specs.Prelude.{ℕ, ◌+◌, ◌-◌, cond, List, [], ◌++◌, ltb, eqb}
use Rattle.model.specs.declared.Header.{Header}
use Rattle.model.specs.declared.Refusal.{Refusal}
use Rattle.model.specs.Refusals.{is_none}
use Rattle.model_recipes.specs.Recipe.{up_to, announced_places}
use Rattle.model_texts.specs.Cause.{cause_text}
use Rattle.model_texts.specs.Printed.{refused_text}
use Rattle.model_texts.specs.Trace.{step_word}
use Rattle.model_texts.specs.Sheet.{input_count, coefficient_count, sheet_steps, sheet_recipe, read_refusal, sheet_refusal}
use Rattle.model_faults.specs.Broken.{broken_text}
use Rattle.model_faults.specs.WordOne.{sizes_fault}
use Rattle.model_faults.specs.StepWord.{formed_cause}
use Rattle.model_faults.specs.StepCount.{variable_cause, limit_cause, count_cause}
use Rattle.model_faults.specs.StepStop.{stop_cause}
use Rattle.model_faults.specs.Own.{where_text, line_of, own_fault}

-- the step w is refused by n, known what the places before it announce
unfoldable pub step_cause : ℕ → ℕ → ℕ → List Header → List ℕ
step_cause n w p known =
    cond (eqb n 7) (formed_cause w p)
    (cond (eqb n 3) (variable_cause w known)
    (cond (eqb n 4) (limit_cause w known)
    (cond (eqb n 12) (stop_cause w)
    (count_cause w known))))

-- t: the bytes of the sheet
module _ (t : List ℕ) where
  -- refused while it is read: by 8, by 7, or by 1, with the fault of an input's header (document 02, W5)
  unfoldable pub read_fault : Refusal → List ℕ
  read_fault r =
      cond (eqb r.number 8) (broken_text t)
      (cond (eqb r.number 7) (sizes_fault t)
      (where_text (2 + r.place) (input_count t) r.place ++ cause_text r.variable r.cause))

  -- refused once it is read: the step at the place p, by n
  unfoldable pub place_fault : ℕ → ℕ → List ℕ
  place_fault p n =
      let k = input_count t in
      where_text (line_of k (coefficient_count t) p) k p ++ step_cause n (step_word (sheet_steps t) k p) p (announced_places (up_to (sheet_recipe t) (p - k)))

  -- at a step, or by the program's own limits
  unfoldable pub recipe_fault : Refusal → List ℕ
  recipe_fault r =
      cond (ltb r.place 64) (place_fault r.place r.number) (own_fault (announced_places (sheet_recipe t)) (input_count t))

  -- the sentence; none where the sheet is not refused
  unfoldable pub fault_text : List ℕ
  fault_text =
      let r = sheet_refusal t in
      cond (is_none r) [] (cond (is_none (read_refusal t)) (recipe_fault r) (read_fault r))

  unfoldable pub fault_report : List ℕ
  fault_report = refused_text (sheet_refusal t) ++ fault_text
