-- REFERENCE 6.3. Document 01, 'Recipes' and 'Announced limits and lengths': the headers that a recipe's places
-- announce, from words alone. Inputs come first, each with its own header; a step announces by its kind from what its
-- operands announce. Total: whatever the fields hold, rules of headers are kept.
use Rattle.std.specs.Prelude.{ℕ, ◌+◌, max, List, [], ◌∷◌, map, length, take, drop, get_or}
use Rattle.lists.specs.Chain.{chain}
use Rattle.model.specs.declared.Header.{Header}
use Rattle.model_recipes.specs.declared.Step.{Step}
use Rattle.model.specs.declared.Family.{Family}
use Rattle.model.specs.declared.Family.TheVariants.{Constant}
use Rattle.model.specs.Header.{no_header, stored}
use Rattle.model.specs.Word.{header_of}
use Rattle.model.specs.Announced.{announced}
use Rattle.model_recipes.specs.Kinds.{kinds}
use Rattle.model_recipes.specs.Steps.{step_of}

-- A recipe: its edition (document 02, W7), its inputs' header words, its step words.
pub record Recipe : Type 0 where
  pub edition : ℕ
  pub headers : List ℕ
  pub steps : List ℕ

abbrev pub recipe_of : ℕ → List ℕ → List ℕ → Recipe
recipe_of e hs ss = record { edition = e; headers = hs; steps = ss }

-- with its first i steps alone
abbrev pub up_to : Recipe → ℕ → Recipe
up_to it i = recipe_of it.edition it.headers (take i it.steps)

-- what each kind announces by in the edition e
unfoldable pub families : ℕ → Step → List Family
families e s = map (λ k. k.family s) (kinds e)

abbrev pub family_of : ℕ → Step → Family
family_of e s = get_or (families e s) s.kind Constant

-- what the place p announces; past the places known no variables
abbrev pub head_at : List Header → ℕ → Header
head_at known p = get_or known p no_header

-- the step w in the edition e, known what the places before it announce
unfoldable pub announced_step : ℕ → ℕ → List Header → Header
announced_step e w known = let s = step_of w in announced (family_of e s) (head_at known s.a) (head_at known s.b)

-- the inputs, by their header words
abbrev pub input_heads : List ℕ → List Header
input_heads hs = map header_of hs

-- all places
unfoldable pub announced_places : Recipe → List Header
announced_places it = chain (announced_step it.edition) (input_heads it.headers) it.steps

-- the steps
unfoldable pub announced_steps : Recipe → List Header
announced_steps it = drop (length it.headers) (announced_places it)

-- the sum and the maximum of announced counts

unfoldable pub total : List Header → ℕ
total [] = 0
total (h ∷ known) = stored h + total known

unfoldable pub largest : List Header → ℕ
largest [] = 0
largest (h ∷ known) = max (stored h) (largest known)
