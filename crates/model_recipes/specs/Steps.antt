-- REFERENCE 2.2, 6.2. Document 01, 'Recipes': the step word, most significant first: kind (4 bits), operand a (6),
-- operand b (6), variable (2), number n (32), 14 zero bits; and which fields each of the sixteen kinds that a word can
-- name uses.
use Rattle.std.specs.Prelude.{ℕ, ◌+◌, ◌*◌, ◌/◌, ◌%◌, ◌^◌, List, [], ◌∷◌, ◌++◌, map, false, get_or}
use Rattle.model_recipes.specs.declared.Step.{Step}
use Rattle.model_recipes.specs.declared.Uses.{Uses}
use Rattle.model_recipes.specs.Kinds.{kinds}

-- what the fields of a word say, well formed or not
unfoldable pub step_of : ℕ → Step
step_of w = record { kind = w / 2 ^ 60 % 2 ^ 4; a = w / 2 ^ 54 % 2 ^ 6; b = w / 2 ^ 48 % 2 ^ 6; variable = w / 2 ^ 46 % 2 ^ 2; n = w / 2 ^ 14 % 2 ^ 32 }

-- the word's last bits
abbrev pub spare_of : ℕ → ℕ
spare_of w = w % 2 ^ 14

-- the word of a step, its last bits zero
unfoldable pub step_fields : Step → ℕ
step_fields s = (((s.kind * 2 ^ 6 + s.a) * 2 ^ 6 + s.b) * 2 ^ 2 + s.variable) * 2 ^ 32 + s.n

unfoldable pub word_of_step : Step → ℕ
word_of_step s = step_fields s * 2 ^ 14

abbrev pub kindless : Uses
kindless = record { kind = false; a = false; b = false; variable = false; n = false }

-- the table's rows, the same in every edition; 12 to 15 are refused
unfoldable pub rows : List Uses
rows = map (λ k. k.uses) (kinds 0) ++ (kindless ∷ kindless ∷ kindless ∷ kindless ∷ [])

abbrev pub uses_of : ℕ → Uses
uses_of k = get_or rows k kindless
