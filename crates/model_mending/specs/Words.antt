-- REFERENCE 12.2. Document 02, W14: which bits of a word stay, by what the word is. Word one and an input header lose
-- their spare bits, a coefficient none, a step its spare bits and each field that its kind does not use; a step of a
-- refused kind stays as it is. What a kind uses is in the table of kinds (model_recipes).
use Rattle.std.specs.Prelude.{ℕ, ◌+◌, ◌*◌, ◌/◌, ◌^◌, Bool, cond, leb, eqb}
use Rattle.model_recipes.specs.declared.Step.{Step}
use Rattle.model_recipes.specs.declared.Uses.{Uses}
use Rattle.model_recipes.specs.Steps.{step_of, word_of_step, uses_of}

-- how many spare bits stand at the low end of word one and of an input header
abbrev pub word_one_spare : ℕ
word_one_spare = 44

abbrev pub header_spare : ℕ
header_spare = 13

-- w with its last n bits zero
abbrev pub without : ℕ → ℕ → ℕ
without n w = w / 2 ^ n * 2 ^ n

unfoldable pub mended_one : ℕ → ℕ
mended_one w = without word_one_spare w

unfoldable pub mended_header : ℕ → ℕ
mended_header w = without header_spare w

-- a field, where it is used
abbrev pub if_used : Bool → ℕ → ℕ
if_used used x = cond used x 0

abbrev pub used_fields : Uses → Step → Step
used_fields u s =
    record {
      kind = s.kind;
      a = if_used u.a s.a;
      b = if_used u.b s.b;
      variable = if_used u.variable s.variable;
      n = if_used u.n s.n;
    }

unfoldable pub mended_step : ℕ → ℕ
mended_step w = let s = step_of w in let u = uses_of s.kind in cond u.kind (word_of_step (used_fields u s)) w

-- the word w of the line k, where so many inputs have `count` coefficients together: word one, headers, coefficients,
-- steps
unfoldable pub mended_word : ℕ → ℕ → ℕ → ℕ → ℕ
mended_word inputs count k w =
    cond (eqb k 0) (mended_one w)
    (cond (leb k inputs) (mended_header w)
    (cond (leb k (inputs + count)) w
    (mended_step w)))
