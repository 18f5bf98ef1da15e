-- REFERENCE 1.2. Document 01, 'What a polynomial is here': coefficients lie in one buffer, last variable fastest; the
-- index of a place is four numbers, one to a variable.
use Rattle.std.specs.Prelude.{ℕ, suc, ◌+◌, ◌-◌, ◌*◌, ◌/◌, ◌%◌, List, [], ◌∷◌, Bool, ◌&&◌, ltb}
use Rattle.lists.specs.Four.{at, four}
use Rattle.model.specs.Header.{span}

-- how far apart neighbours in a variable lie: as many places as the later variables span
unfoldable pub strides : List ℕ → List ℕ
strides n = four (λ v. span n (3 - v) (suc v))

-- the place of an index, by strides
unfoldable pub offset : List ℕ → List ℕ → ℕ
offset s i = at i 0 * at s 0 + at i 1 * at s 1 + at i 2 * at s 2 + at i 3 * at s 3

-- the place of an index in a block with the lengths n
abbrev pub place : List ℕ → List ℕ → ℕ
place n i = offset (strides n) i

-- the index of a place
unfoldable pub index : List ℕ → ℕ → List ℕ
index n p =
    let q = p / at n 3 in
    let r = q / at n 2 in
    (r / at n 1) ∷ (r % at n 1) ∷ (q % at n 2) ∷ (p % at n 3) ∷ []

-- whether the lengths n reach to an index
unfoldable pub inside : List ℕ → List ℕ → Bool
inside n i = ((ltb (at i 0) (at n 0) && ltb (at i 1) (at n 1)) && ltb (at i 2) (at n 2)) && ltb (at i 3) (at n 3)
