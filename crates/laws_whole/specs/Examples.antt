-- Computed examples: sums, whole floats at and past the bound, and textbook series on cases of document 01's 'Examples
-- to hold'.
use Rattle.std.specs.Prelude.{◌≡◌, refl, true, false, List, [], ◌∷◌, ℕ, ◌+◌, ◌*◌, ◌^◌, get_or, ℤ, pos, negsuc, Float}
use Rattle.std.proofs.Common.{lit≤}
use Rattle.std.specs.Float.{nan, fin, binary64}
use Rattle.std.specs.Float.Ieee.{of_int, of_bits, add, mul, div, eq}
use Rattle.lists.specs.Walk.{walk}
use Rattle.lists.specs.Four.{each}
use Rattle.model.specs.Header.{span}
use Rattle.model.specs.Places.{strides, offset}
use Rattle.model_textbook.specs.Sum.{sum, sum_n}
use Rattle.model_textbook.specs.Box.{box, box_n}
use Rattle.model_textbook.specs.Textbook.{Series, series_of, weight, sum_of_all, times, quotient, substitute, shifted}
use Rattle.laws_whole.specs.Whole.{Whole, whole_int, whole-minus-zero}
use Rattle.laws_whole.specs.Exact.{whole-mul, whole-div}
use Rattle.laws_whole.specs.Compare.{eq-zero}

-- ---- sums

sum-range : sum_n (λ j. j) 4 3 ≡ 18
unfolding sum
sum-range = refl

sum-box : box_n (2 ∷ 3 ∷ []) (λ j. get_or j 0 0 * 10 + get_or j 1 0) ≡ 36
unfolding box
sum-box = refl

-- ---- whole floats

past_bound : of_int binary64 (pos (2 ^ 53 + 1)) ≡ fin false 1 (pos 53)
unfolding of_int
past_bound = refl

-- the two zeros are one number, and equal
minus-zero-equal : eq (of_bits binary64 0x8000000000000000) (of_bits binary64 0) ≡ true
minus-zero-equal = (eq-zero whole-minus-zero).1 refl

one_not_zero : eq (of_bits binary64 0x3ff0000000000000) (of_bits binary64 0) ≡ false
unfolding eq of_bits
one_not_zero = refl

-- ---- series

-- the first three coefficients in the first variable, and the first two by two in the first two
abbrev row : Series → List ℤ
row A = A (0 ∷ 0 ∷ 0 ∷ 0 ∷ []) ∷ A (1 ∷ 0 ∷ 0 ∷ 0 ∷ []) ∷ A (2 ∷ 0 ∷ 0 ∷ 0 ∷ []) ∷ []

abbrev square : Series → List ℤ
square A = A (0 ∷ 0 ∷ 0 ∷ 0 ∷ []) ∷ A (0 ∷ 1 ∷ 0 ∷ 0 ∷ []) ∷ A (1 ∷ 0 ∷ 0 ∷ 0 ∷ []) ∷ A (1 ∷ 1 ∷ 0 ∷ 0 ∷ []) ∷ []

-- the series of a list of stored coefficients; of a line of three places, and of a block of two by two
stored : List ℕ → List ℤ → Series
unfolding series_of strides offset span
stored n zs = series_of n (λ p. get_or zs p (pos 0))

abbrev line : List ℤ → Series
line = stored (3 ∷ 1 ∷ 1 ∷ 1 ∷ [])

abbrev block : List ℤ → Series
block = stored (2 ∷ 2 ∷ 1 ∷ 1 ∷ [])

-- [[1,2],[3,4]] times [[5,6],[7,8]]: [[5,16],[22,60]]
product : square (times (block (pos 1 ∷ pos 2 ∷ pos 3 ∷ pos 4 ∷ [])) (block (pos 5 ∷ pos 6 ∷ pos 7 ∷ pos 8 ∷ []))) ≡ pos 5 ∷ pos 16 ∷ pos 22 ∷ pos 60 ∷ []
unfolding times stored box
product = refl

-- times [3,2]: [[3,6],[11,16]]
product-line : square (times (block (pos 1 ∷ pos 2 ∷ pos 3 ∷ pos 4 ∷ [])) (line (pos 3 ∷ pos 2 ∷ []))) ≡ pos 3 ∷ pos 6 ∷ pos 11 ∷ pos 16 ∷ []
unfolding times stored box
product-line = refl

-- [1] over [1,1]: [1,-1,1]
quotient-line : row (quotient (line (pos 1 ∷ [])) (line (pos 1 ∷ pos 1 ∷ []))) ≡ pos 1 ∷ negsuc 0 ∷ pos 1 ∷ []
unfolding quotient stored box
quotient-line = refl

-- [1] over [-1,1]: [-1,-1,-1]
quotient-minus : row (quotient (line (pos 1 ∷ [])) (line (negsuc 0 ∷ pos 1 ∷ []))) ≡ negsuc 0 ∷ negsuc 0 ∷ negsuc 0 ∷ []
unfolding quotient stored box
quotient-minus = refl

-- [[5,16],[22,60]] over [[1,2],[3,4]]: [[5,6],[7,8]]
quotient-block : square (quotient (block (pos 5 ∷ pos 16 ∷ pos 22 ∷ pos 60 ∷ []))
    (block (pos 1 ∷ pos 2 ∷ pos 3 ∷ pos 4 ∷ []))) ≡ pos 5 ∷ pos 6 ∷ pos 7 ∷ pos 8 ∷ []
unfolding quotient stored box
quotient-block = refl

-- [1,2,3], v replaced by the constant 0: [1]; by [0,2]: [1,4,12]; by [1,1]: [6,8,3]
substitute-zero : row (substitute 0 3 (line (pos 1 ∷ pos 2 ∷ pos 3 ∷ [])) (line (pos 0 ∷ []))) ≡ pos 1 ∷ pos 0 ∷ pos 0 ∷ []
unfolding substitute stored box
substitute-zero = refl

substitute-linear : row (substitute 0 3 (line (pos 1 ∷ pos 2 ∷ pos 3 ∷ [])) (line (pos 0 ∷ pos 2 ∷ []))) ≡ pos 1 ∷ pos 4 ∷ pos 12 ∷ []
unfolding substitute stored box
substitute-linear = refl

substitute-shift : row (substitute 0 3 (line (pos 1 ∷ pos 2 ∷ pos 3 ∷ [])) (line (pos 1 ∷ pos 1 ∷ []))) ≡ pos 6 ∷ pos 8 ∷ pos 3 ∷ []
unfolding substitute stored box
substitute-shift = refl

-- [2,3,1] shifted by 1: [5,1]; by 2: [6]
shifted_one : row (shifted 0 1 (line (pos 2 ∷ pos 3 ∷ pos 1 ∷ []))) ≡ pos 5 ∷ pos 1 ∷ pos 0 ∷ []
unfolding shifted stored sum
shifted_one = refl

shifted-two : row (shifted 0 2 (line (pos 2 ∷ pos 3 ∷ pos 1 ∷ []))) ≡ pos 6 ∷ pos 0 ∷ pos 0 ∷ []
unfolding shifted stored sum
shifted-two = refl

-- |[[1,-2],[3,-4]]| is 10, and the sum of its coefficients is -2
weight-block : weight (2 ∷ 2 ∷ 1 ∷ 1 ∷ []) (block (pos 1 ∷ negsuc 1 ∷ pos 3 ∷ negsuc 3 ∷ [])) ≡ 10
unfolding weight stored box
weight-block = refl

total-block : sum_of_all (2 ∷ 2 ∷ 1 ∷ 1 ∷ []) (block (pos 1 ∷ negsuc 1 ∷ pos 3 ∷ negsuc 3 ∷ [])) ≡ negsuc 1
unfolding sum_of_all stored box
total-block = refl
