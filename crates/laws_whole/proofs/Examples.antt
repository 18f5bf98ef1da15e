-- What rests on laws of specs/ (Examples).
use Rattle.std.specs.Prelude.{refl, List, [], ◌∷◌, ◌^◌, get_or, ℤ, pos, negsuc, Float}
use Rattle.std.proofs.Common.{lit≤}
use Rattle.std.specs.Float.{nan, binary64}
use Rattle.std.specs.Float.Ieee.{of_int, of_bits, add, mul, div}
use Rattle.lists.specs.Walk.{walk}
use Rattle.lists.specs.Four.{each}
use Rattle.model_textbook.specs.Sum.{sum}
use Rattle.laws_whole.specs.Whole.{Whole, whole_int}
use Rattle.laws_whole.specs.Exact.{whole-mul, whole-div}
use Rattle.laws_whole.proofs.Steps.{whole_list}

-- the bound is reached; one more rounds to it, 1 times 2 ^ 53
pub bound : Whole (of_int binary64 (pos (2 ^ 53))) (pos (2 ^ 53))
bound = whole_int (pos (2 ^ 53)) (lit≤ tt)

-- 3 * -4, and 7 over -1
pub product_of-two : Whole (mul binary64 (of_int binary64 (pos 3)) (of_int binary64 (negsuc 3))) (negsuc 11)
product_of-two = whole-mul (whole_int (pos 3) (lit≤ tt)) (whole_int (negsuc 3) (lit≤ tt)) (lit≤ tt)

pub over_minus_one : Whole (div binary64 (of_int binary64 (pos 7)) (of_int binary64 (negsuc 0))) (negsuc 6)
over_minus_one = whole-div (whole_int (pos 7) (lit≤ tt)) (whole_int (negsuc 0) (lit≤ tt)) refl (lit≤ tt)

-- 1, then near 2 ^ 53, then -2, then 3, upward from +0.0
abbrev pub terms : List ℤ
terms = pos 1 ∷ pos 9007199254740000 ∷ negsuc 1 ∷ pos 3 ∷ []

abbrev pub floats : List Float
floats = of_int binary64 (pos 1) ∷ of_int binary64 (pos 9007199254740000) ∷ of_int binary64 (negsuc 1) ∷ of_int binary64 (pos 3) ∷ []

pub upward : Whole (walk (λ i acc. add binary64 acc (get_or floats i nan)) 4 0 (of_bits binary64 0)) (pos 9007199254740002)
unfolding sum
upward =
    whole_list floats (λ j. get_or terms j (pos 0)) 4
    (each (λ j. Whole (get_or floats j nan) (get_or terms j (pos 0))) (whole_int _ (lit≤ tt)) (whole_int _ (lit≤ tt))
    (whole_int _ (lit≤ tt)) (whole_int _ (lit≤ tt)))
    (lit≤ tt)
