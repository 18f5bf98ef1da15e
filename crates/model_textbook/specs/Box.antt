-- REFERENCE 8.1. Document 01, 'Where the result is exact', in several variables (Knuth, Seminumerical Algorithms, 4.7,
-- in each of them): an index is a list of numbers, one to a variable, and a box is all indices whose numbers stay below
-- the box's. The sum of f over a box.
use Rattle.std.specs.Prelude.{ℕ, suc, ◌+◌, ◌-◌, List, [], ◌∷◌, ℤ}
use Rattle.model_textbook.specs.Sum.{Adding, sum, add_n, add_z}

-- f j over every j with j v < n v in each variable v
unfoldable pub box : {A : Type 0} → Adding A → List ℕ → (List ℕ → A) → A
unfolding sum
box M [] f = f []
box M (n ∷ ns) f = sum M (λ i. box M ns (λ j. f (i ∷ j))) n 0

abbrev pub box_n : List ℕ → (List ℕ → ℕ) → ℕ
box_n = box add_n

abbrev pub box_z : List ℕ → (List ℕ → ℤ) → ℤ
box_z = box add_z

-- the box of every j from 0 to k in each variable
unfoldable pub up_to : List ℕ → List ℕ
up_to [] = []
up_to (k ∷ ks) = suc k ∷ up_to ks

-- k + j and k - j, variable by variable
unfoldable pub index_plus : List ℕ → List ℕ → List ℕ
index_plus [] js = []
index_plus (k ∷ ks) [] = k ∷ ks
index_plus (k ∷ ks) (j ∷ js) = (k + j) ∷ index_plus ks js

unfoldable pub index_minus : List ℕ → List ℕ → List ℕ
index_minus [] js = []
index_minus (k ∷ ks) [] = k ∷ ks
index_minus (k ∷ ks) (j ∷ js) = (k - j) ∷ index_minus ks js

-- the sum of an index's numbers
unfoldable pub degree : List ℕ → ℕ
degree [] = 0
degree (k ∷ ks) = k + degree ks
