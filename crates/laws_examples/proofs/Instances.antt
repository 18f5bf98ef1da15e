-- What rests on laws of specs/ (Instances).
use Rattle.std.specs.Prelude.{Ok, ◌≡◌, refl, [], ◌∷◌, ◌<◌, get_or, pos, negsuc}
use Rattle.std.proofs.Common.{lit<, lit≤}
use Rattle.std.specs.Float.{nan}
use Rattle.model.specs.Header.{span}
use Rattle.model.specs.Word.{header_of}
use Rattle.model.specs.Places.{strides, offset, inside}
use Rattle.model.specs.Limits.{min_limit, min_degrees_p1}
use Rattle.model.specs.Product.{product_answer, product_out}
use Rattle.model.specs.Quotient.{quotient_answer, quotient_out}
use Rattle.model.specs.Shifts.{shift_down_answer, shift_down_out}
use Rattle.model.specs.Substitute.{substitute_answer, substitute_out}
use Rattle.model_textbook.specs.Sum.{sum}
use Rattle.model_textbook.specs.Box.{box, up_to, index_minus, degree}
use Rattle.model_textbook.specs.Textbook.{truncated, series_of, weight, times, rest, turns, quotient, one, power}
use Rattle.model_textbook.specs.Textbook.{coefficient_of, substitute, shifted, origin}
use Rattle.laws_whole.specs.Whole.{Whole}
use Rattle.laws_called.specs.Held.{all_under}
use Rattle.laws_called.specs.Called.{smaller}
use Rattle.laws_called.proofs.Called.{multiply-exact, divide-exact, subst-exact, shift-exact}
use Rattle.laws_examples.specs.Examples.{floats, rows}
use Rattle.laws_examples.proofs.Called.{in_row}
use Rattle.laws_examples.specs.Called.{shown-done}
use Rattle.laws_examples.specs.Instances.{a, b, c, down, down-whole, into, into-whole, left, left-whole, lower, ones}
use Rattle.laws_examples.specs.Instances.{ones-whole, over, places, put, right, right-whole, scratch, squares, units}
use Rattle.laws_examples.specs.Instances.{unity, unity-whole}

pub multiplies : product_answer left.word (floats left) right.word (floats right) (places squares) (scratch squares) ≡ Ok left.word
unfolding rows
multiplies =
    shown-done _ (product_out left.word (floats left) right.word (floats right) (places squares) (scratch squares)) _
    (lit< tt) (in_row 2 (lit< tt))

pub sixty : Whole (get_or (product_out left.word (floats left) right.word (floats right) (places squares) (scratch squares)) 3 nan) (pos 60)
unfolding header_of span weight times series_of truncated inside strides offset box up_to index_minus min_degrees_p1 min_limit
sixty =
    (multiply-exact left.word (floats left) right.word (floats right) (places squares) (scratch squares) a b
    (all_under (smaller left.word right.word) left-whole) (all_under (smaller left.word right.word) right-whole)
    (lit≤ tt) multiplies).at (1 ∷ 1 ∷ 0 ∷ 0 ∷ []) refl (record { i0 = lit< tt; i1 = lit< tt; i2 = lit< tt; i3 = lit< tt })

pub divides : quotient_answer unity.word (floats unity) ones.word (floats ones) (places over) (scratch over) ≡ Ok 0x2104000000000000
unfolding rows
divides = shown-done _ (quotient_out unity.word (floats unity) ones.word (floats ones) (places over) (scratch over)) _ (lit< tt) (in_row 4 (lit< tt))

pub minus_one : Whole (get_or (quotient_out unity.word (floats unity) ones.word (floats ones) (places over) (scratch over)) 1 nan) (negsuc 0)
unfolding header_of span weight quotient turns rest degree times series_of truncated inside strides offset box up_to index_minus min_degrees_p1 min_limit
minus_one =
    (divide-exact unity.word (floats unity) ones.word (floats ones) (places over) (scratch over) units units
    (all_under (smaller unity.word ones.word) unity-whole) (all_under (smaller unity.word ones.word) ones-whole)
    refl (lit≤ tt) divides).at (1 ∷ 0 ∷ 0 ∷ 0 ∷ []) refl (record { i0 = lit< tt; i1 = lit< tt; i2 = lit< tt; i3 = lit< tt })

pub substitutes : substitute_answer 0 into.word (floats into) ones.word (floats ones) (places put) (scratch put) ≡ Ok into.word
unfolding rows
substitutes = shown-done _ (substitute_out 0 into.word (floats into) ones.word (floats ones) (places put) (scratch put)) _ (lit< tt) (in_row 13 (lit< tt))

pub eight : Whole (get_or (substitute_out 0 into.word (floats into) ones.word (floats ones) (places put) (scratch put)) 1 nan) (pos 8)
unfolding header_of span weight substitute power one degree coefficient_of times series_of truncated inside strides offset box sum up_to index_minus
eight =
    (subst-exact into.word (floats into) ones.word (floats ones) (places put) (scratch put) c units 0 into-whole ones-whole (lit≤ tt) substitutes).at
    (1 ∷ 0 ∷ 0 ∷ 0 ∷ []) refl (record { i0 = lit< tt; i1 = lit< tt; i2 = lit< tt; i3 = lit< tt })

pub shifts : shift_down_answer down.word (floats down) 0 1 (places lower) ≡ Ok 0x2082000000000000
unfolding rows
shifts = shown-done _ (shift_down_out down.word (floats down) 0 1 (places lower)) _ (lit< tt) (in_row 7 (lit< tt))

pub five : Whole (get_or (shift_down_out down.word (floats down) 0 1 (places lower)) 0 nan) (pos 5)
unfolding header_of span weight shifted series_of truncated inside strides offset box sum
five = (shift-exact down.word (floats down) 0 1 (places lower) down-whole (lit≤ tt) shifts).at origin refl
    (record { i0 = lit< tt; i1 = lit< tt; i2 = lit< tt; i3 = lit< tt })
