-- The caller's laws (laws_called) apply to document 01's examples, and say what the table computes: [[1,2],[3,4]] times
-- [[5,6],[7,8]] leaves 60 at the index (1, 1); [1] limit 3 over [1,1] limit 3 leaves -1 at the index 1; [1,2,3] with v
-- replaced by [1,1] limit 3 leaves 8 at the index 1; [2,3,1] shifted by 1 leaves 5 at the index 0.
use Rattle.std.specs.Prelude.{Ok, ◌≡◌, refl, false, List, [], ◌∷◌, ℕ, zero, suc, ◌*◌, ◌<◌, get_or, ℤ, pos, negsuc, Float}
use Rattle.std.proofs.Common.{arith, lit<, lit≤}
use Rattle.std.specs.Float.{nan}
use Rattle.std.specs.Float.Ieee.{of_bits}
use Rattle.lists.specs.Four.{each}
use Rattle.model.specs.declared.Header.{Header}
use Rattle.model.specs.declared.Family.TheVariants.{Product, Quotient, Shift, Substitution}
use Rattle.model.specs.Header.{span, stored}
use Rattle.model.specs.Word.{header_of}
use Rattle.model.specs.Places.{strides, offset, inside}
use Rattle.model.specs.Limits.{min_limit, min_degrees_p1}
use Rattle.model.specs.Gates.{announced_one, announced_pair}
use Rattle.model.specs.Product.{product_answer, product_out}
use Rattle.model.specs.Quotient.{quotient_answer, quotient_out}
use Rattle.model.specs.Shifts.{shift_down_answer, shift_down_out}
use Rattle.model.specs.Substitute.{substitute_answer, substitute_out}
use Rattle.model_textbook.specs.Sum.{sum}
use Rattle.model_textbook.specs.Box.{box, up_to, index_minus, degree}
use Rattle.model_textbook.specs.Textbook.{truncated, series_of, weight, times, rest, turns, quotient, one, power}
use Rattle.model_textbook.specs.Textbook.{coefficient_of, substitute, shifted, origin}
use Rattle.laws_whole.specs.Whole.{Whole, whole-unit}
use Rattle.laws_called.specs.Held.{AllWhole, all_under}
use Rattle.laws_called.specs.Called.{smaller}
use Rattle.laws_called.proofs.Called.{multiply-exact, divide-exact, subst-exact, shift-exact}
use Rattle.laws_examples.specs.Examples.{Operand, operand, square, three, floats, lent, rows}
use Rattle.laws_examples.specs.Called.{shown-done}

-- places for a result, and scratch
abbrev pub places : Header → List Float
places h = lent (stored h)

abbrev pub scratch : Header → List Float
scratch h = lent (8 * stored h)

abbrev whole : List ℤ → ℕ → ℤ
whole zs p = get_or zs p (pos 0)

-- what holds of 0, 1, 2
threefold : (P : ℕ → Type 0) → P 0 → P 1 → P 2 → (p : ℕ) → p < 3 → P p
threefold P a b c zero h = a
threefold P a b c (suc zero) h = b
threefold P a b c (suc (suc zero)) h = c
threefold P a b c (suc (suc (suc p))) h = absurd (omega arith)

-- ---- a product

abbrev pub left : Operand
left = square (0x3ff0000000000000 ∷ 0x4000000000000000 ∷ 0x4008000000000000 ∷ 0x4010000000000000 ∷ [])

abbrev pub right : Operand
right = square (0x4014000000000000 ∷ 0x4018000000000000 ∷ 0x401c000000000000 ∷ 0x4020000000000000 ∷ [])

abbrev pub a : ℕ → ℤ
a = whole (pos 1 ∷ pos 2 ∷ pos 3 ∷ pos 4 ∷ [])

abbrev pub b : ℕ → ℤ
b = whole (pos 5 ∷ pos 6 ∷ pos 7 ∷ pos 8 ∷ [])

pub left-whole : AllWhole left.word (floats left) a
unfolding header_of span of_bits
left-whole = record {
  at =
      each (λ p. Whole (get_or (floats left) p nan) (a p))
      (record { sign = false; value = (refl, refl); is = refl }) (record { sign = false; value = (refl, refl); is = refl })
      (record { sign = false; value = (refl, refl); is = refl }) (record { sign = false; value = (refl, refl); is = refl });
}

pub right-whole : AllWhole right.word (floats right) b
unfolding header_of span of_bits
right-whole = record {
  at =
      each (λ p. Whole (get_or (floats right) p nan) (b p))
      (record { sign = false; value = (refl, refl); is = refl }) (record { sign = false; value = (refl, refl); is = refl })
      (record { sign = false; value = (refl, refl); is = refl }) (record { sign = false; value = (refl, refl); is = refl });
}

abbrev pub squares : Header
squares = announced_pair Product left.word right.word

-- ---- a quotient

abbrev pub unity : Operand
unity = operand 0x2100000000000000 (0x3ff0000000000000 ∷ [])

abbrev pub ones : Operand
ones = operand 0x2102000000000000 (0x3ff0000000000000 ∷ 0x3ff0000000000000 ∷ [])

-- 1 at each place
abbrev pub units : ℕ → ℤ
units p = pos 1

pub unity-whole : AllWhole unity.word (floats unity) units
unfolding header_of span
unity-whole = record { at = unity-at }
  where
    unity-at : (p : ℕ) → p < 1 → Whole (get_or (floats unity) p nan) (units p)
    unity-at zero h = whole-unit
    unity-at (suc p) h = absurd (omega arith)

pub ones-whole : AllWhole ones.word (floats ones) units
unfolding header_of span
ones-whole = record { at = ones-at }
  where
    ones-at : (p : ℕ) → p < 2 → Whole (get_or (floats ones) p nan) (units p)
    ones-at zero h = whole-unit
    ones-at (suc zero) h = whole-unit
    ones-at (suc (suc p)) h = absurd (omega arith)

abbrev pub over : Header
over = announced_pair Quotient unity.word ones.word

-- ---- a substitution

abbrev pub into : Operand
into = three (0x3ff0000000000000 ∷ 0x4000000000000000 ∷ 0x4008000000000000 ∷ [])

abbrev pub c : ℕ → ℤ
c = whole (pos 1 ∷ pos 2 ∷ pos 3 ∷ [])

pub into-whole : AllWhole into.word (floats into) c
unfolding header_of span of_bits
into-whole = record {
  at =
      threefold (λ p. Whole (get_or (floats into) p nan) (c p))
      (record { sign = false; value = (refl, refl); is = refl })
      (record { sign = false; value = (refl, refl); is = refl })
      (record { sign = false; value = (refl, refl); is = refl });
}

abbrev pub put : Header
put = announced_pair (Substitution 0) into.word ones.word

-- ---- a shift

abbrev pub down : Operand
down = three (0x4000000000000000 ∷ 0x4008000000000000 ∷ 0x3ff0000000000000 ∷ [])

abbrev d : ℕ → ℤ
d = whole (pos 2 ∷ pos 3 ∷ pos 1 ∷ [])

pub down-whole : AllWhole down.word (floats down) d
unfolding header_of span of_bits
down-whole = record {
  at =
      threefold (λ p. Whole (get_or (floats down) p nan) (d p))
      (record { sign = false; value = (refl, refl); is = refl })
      (record { sign = false; value = (refl, refl); is = refl })
      (record { sign = false; value = (refl, refl); is = refl });
}

abbrev pub lower : Header
lower = announced_one (Shift 0 1) down.word
