-- The numbers of a stored case: words on its first lines (`word_on`, of sheets: a byte that is missing or no digit
-- counts as 0).
use Rattle.std.specs.Prelude.{ℕ, List, [], ◌∷◌, cond, ltb}
use Rattle.model_texts.specs.Sheet.{word_on}

module _ (t : List ℕ) where
  -- the number k of n, 0 where a case has fewer
  abbrev pub number_at : ℕ → ℕ → ℕ
  number_at n k = cond (ltb k n) (word_on t k) 0

  abbrev pub numbers_of : ℕ → List ℕ
  numbers_of n =
      number_at n 0 ∷ number_at n 1 ∷ number_at n 2 ∷ number_at n 3 ∷ number_at n 4 ∷ number_at n 5 ∷ number_at n 6 ∷ []
