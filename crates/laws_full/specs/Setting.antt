-- Short names for what the laws say of one recipe: (it .headers) its inputs' header words, (it .steps) its step words.
use Rattle.std.specs.Prelude.{ℕ, ◌+◌, Bool, true, List, ◌≡◌, length}
use Rattle.model.specs.declared.Header.{Header}
use Rattle.model_recipes.specs.declared.Step.{Step}
use Rattle.model_recipes.specs.Recipe.{Recipe, head_at, announced_places}
use Rattle.model_texts.specs.Trace.{step_word}
use Rattle.model_texts.specs.Full.{full_at, fulls}
use Rattle.model_texts.specs.Whole.{leaves_out, is_whole, first_out as first_left_out}
use Rattle.laws_full.specs.Made.{step_at, takes_first, takes_second, Made, Polynomial, Drops}

module _ (it : Recipe) where
  -- the number of places
  abbrev pub size : ℕ
  size = length it.headers + length it.steps

  -- what they announce
  abbrev pub known : List Header
  known = announced_places it

  abbrev pub head : ℕ → Header
  head = head_at known

  -- their full lengths, all in one list, and of the place p in the variable w
  abbrev pub lengths : List ℕ
  lengths = fulls known it.steps (length it.headers) size

  abbrev pub full : ℕ → ℕ → ℕ
  full = full_at lengths

  -- the step at the place p
  abbrev pub word : ℕ → ℕ
  word = step_word it.steps (length it.headers)

  abbrev pub step : ℕ → Step
  step = step_at it.steps (length it.headers)

  -- it needs its first operand, its second
  abbrev pub Takes-a : ℕ → Type 0
  Takes-a p = takes_first it.steps (length it.headers) lengths p ≡ true

  abbrev pub Takes-b : ℕ → Type 0
  Takes-b p = takes_second it.steps (length it.headers) lengths p ≡ true

  -- the place p is made of the place q
  abbrev pub MadeOf : ℕ → ℕ → Type 0
  MadeOf = Made it.steps (length it.headers) lengths

  -- all steps that it is made of make polynomials of polynomials
  abbrev pub IsPolynomial : ℕ → Type 0
  IsPolynomial = Polynomial it.steps (length it.headers) lengths

  -- the place q is a step that leaves terms out
  abbrev pub LeavesOut : ℕ → Type 0
  LeavesOut = Drops it.steps (length it.headers) lengths known

  -- no step that the place p is made of does
  abbrev pub Clear : ℕ → Type 0
  Clear p = (q : ℕ) → MadeOf p q → LeavesOut q → ⊥

  -- what the report says of the place p: whether it is whole, and the first place that leaves terms out
  abbrev pub Whole : ℕ → Type 0
  Whole p = is_whole known it.steps (length it.headers) lengths p ≡ true

  abbrev pub first_out : ℕ → ℕ
  first_out = first_left_out known it.steps (length it.headers) lengths

  abbrev pub out : ℕ → Bool
  out = leaves_out known lengths
