-- REFERENCE 7.4. Document 01, the program `recipe`: what it prints. `done` and the step count, then the last header,
-- then its coefficients; or one line of `refused`, number, place and, by document 02, W5, variable and cause, 0 0 for
-- refusals that have none; single spaces between. NaN prints as 7ff8000000000000.
use Rattle.std.specs.Prelude.{ℕ, zero, suc, ◌+◌, ◌/◌, ◌%◌, List, [], ◌∷◌, ◌++◌, map, cond, ltb, Float}
use Rattle.std.specs.Float.Ieee.{to_bits}
use Rattle.std.specs.Float.{binary64}
use Rattle.model.specs.declared.Refusal.{Refusal}
use Rattle.model_texts.specs.Hex.{hex_line, hex_lines}

-- "done "
abbrev pub done_word : List ℕ
done_word = 100 ∷ 111 ∷ 110 ∷ 101 ∷ 32 ∷ []

-- "refused "
abbrev pub refused_word : List ℕ
refused_word = 114 ∷ 101 ∷ 102 ∷ 117 ∷ 115 ∷ 101 ∷ 100 ∷ 32 ∷ []

abbrev pub space : List ℕ
space = 32 ∷ []

abbrev pub newline : List ℕ
newline = 10 ∷ []

-- the last decimal digit of n
abbrev pub last_digit : ℕ → ℕ
last_digit n = 48 + n % 10

-- the digits of a number below 10 ^ k
unfoldable pub digits : ℕ → ℕ → List ℕ
digits zero n = []
digits (suc k) n = cond (ltb n 10) (last_digit n ∷ []) (digits k (n / 10) ++ (last_digit n ∷ []))

-- a number below 10 ^ 20, no zeros before it
unfoldable pub decimal : ℕ → List ℕ
decimal n = digits 20 n

-- n steps, of which the last has the header word w and the coefficients xs
unfoldable pub done_text : ℕ → ℕ → List Float → List ℕ
done_text n w xs = done_word ++ (decimal n ++ (newline ++ (hex_line w ++ hex_lines (map (to_bits binary64) xs))))

unfoldable pub refused_text : Refusal → List ℕ
refused_text r =
    refused_word
    ++ (decimal r.number ++ (space ++ (decimal r.place ++ (space ++ (decimal r.variable ++ (space ++ (decimal r.cause ++ newline)))))))
