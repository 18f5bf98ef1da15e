-- REFERENCE 6.4. Document 01, 'Recipes' and 'Refusal numbers': the check of a recipe, from words alone. Recipe sizes
-- (7, at no place), then inputs in order (1, with the header's fault: document 02, W5), then each step in order (7, 3,
-- 4, 5). It answers the pool total, the largest announced step count and the input coefficient total.
use Rattle.std.specs.Prelude.{Err, ℕ, suc, ◌+◌, List, [], ◌∷◌, ◌++◌, Bool, true, false, ◌&&◌, ◌||◌, cond, ltb, leb, eqb, length}
use Rattle.model.specs.declared.Header.{Header}
use Rattle.model.specs.declared.Refusal.{Refusal}
use Rattle.model_recipes.specs.declared.Step.{Step}
use Rattle.model_recipes.specs.Results.{CheckAnswer, accepting}
use Rattle.model.specs.Header.{limit, stored}
use Rattle.model.specs.Word.{good_word}
use Rattle.model.specs.Refusals.{ask_for, refused_at, no_refusal, is_none}
use Rattle.model.specs.Gates.{bad_word}
use Rattle.model_recipes.specs.Steps.{step_of, spare_of, uses_of}
use Rattle.model_recipes.specs.Recipe.{Recipe, head_at, announced_step, input_heads, announced_steps, total, largest}

-- what follows where the test holds, else a refusal at the place p
abbrev pub ask_at : Bool → ℕ → ℕ → Refusal → Refusal
ask_at true k p next = next
ask_at false k p next = refused_at k p

-- the first refusal; what follows where it is none
unfoldable pub or_else : Refusal → Refusal → Refusal
or_else r next = cond (is_none r) next r

-- editions 0 and 1 (document 02, W7)
abbrev pub known_edition : ℕ → Bool
known_edition e = leb e 1

-- k inputs and n steps
unfoldable pub right_sizes : ℕ → ℕ → Bool
right_sizes k n = (leb k 16 && leb 1 n) && leb (k + n) 64

-- a used operand names a place before p; an unused field is zero
abbrev pub named_before : ℕ → Bool → ℕ → Bool
named_before p used x = cond used (ltb x p) (eqb x 0)

abbrev pub zero_unless : Bool → ℕ → Bool
zero_unless used x = used || eqb x 0

-- test 7 of the step w at the place p
unfoldable pub formed : ℕ → ℕ → Bool
formed w p =
    let s = step_of w in
    let u = uses_of s.kind in
    ((((u.kind && named_before p u.a s.a) && named_before p u.b s.b) && zero_unless u.variable s.variable)
    && zero_unless u.n s.n)
    && eqb (spare_of w) 0

-- the three shifts: tests 3 and 4 are theirs alone
abbrev pub lowers : Step → Bool
lowers s = leb 7 s.kind && leb s.kind 9

-- the step w in the edition e, known what the places before it announce
unfoldable pub step_refusal : ℕ → ℕ → List Header → Refusal
step_refusal e w known =
    let s = step_of w in
    let p = length known in
    let a = head_at known s.a in
    ask_at (formed w p) 7 p
    (ask_at (cond (lowers s) (ltb s.variable a.vars) true) 3 p
    (ask_at (cond (lowers s) (ltb s.n (limit a s.variable)) true) 4 p
    (ask_at (leb (stored (announced_step e w known)) 4096) 5 p
    no_refusal)))

-- the inputs from the place p on
unfoldable pub inputs_refusal : ℕ → List ℕ → Refusal
inputs_refusal p [] = no_refusal
inputs_refusal p (w ∷ ws) = ask_for (good_word w) (bad_word w p) (inputs_refusal (suc p) ws)

-- the steps after the places known
unfoldable pub steps_refusal : ℕ → List Header → List ℕ → Refusal
steps_refusal e known [] = no_refusal
steps_refusal e known (w ∷ ws) = or_else (step_refusal e w known) (steps_refusal e (known ++ (announced_step e w known ∷ [])) ws)

unfoldable pub check_refusal : Recipe → Refusal
check_refusal it =
    ask_at (known_edition it.edition && right_sizes (length it.headers) (length it.steps)) 7 64
    (or_else (inputs_refusal 0 it.headers)
    (steps_refusal it.edition (input_heads it.headers) it.steps))

-- which case of the enum stands for which numbers
unfoldable pub check_by : Refusal → ℕ → ℕ → ℕ → CheckAnswer
check_by r pool most inputs = cond (is_none r) (accepting pool most inputs) (Err r)

unfoldable pub check_answer : Recipe → CheckAnswer
check_answer it = check_by (check_refusal it) (total (announced_steps it)) (largest (announced_steps it)) (total (input_heads it.headers))
