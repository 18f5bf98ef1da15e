-- Document 01, 'Examples to hold', all that are marked P: one table, one statement, by computation from the definitions
-- that the functions promise. A row names an operation, its operands and what is wanted; an operand is a header word
-- and the bits of its coefficients. A number that is read has no header: its word is 0.
use Rattle.std.specs.Prelude.{Ok, Err, ◌≡◌, refl, Bool, true, false, ◌&&◌, List, [], ◌∷◌, map, ℕ, ◌*◌, eqb, take, Float}
use Rattle.std.specs.Float.{nan, binary64}
use Rattle.std.specs.Float.Ieee.{of_bits, to_bits, neg, add, sub, mul, div, eq, lt, of_int}
use Rattle.lists.specs.Walk.{walk}
use Rattle.lists.specs.Table.{table}
use Rattle.lists.specs.Grow.{grow}
use Rattle.lists.specs.Stack.{stack}
use Rattle.model.specs.declared.Header.{Header}
use Rattle.model.specs.Results.{Answer}
use Rattle.model.specs.Results.{Reading}
use Rattle.model.specs.declared.Family.TheVariants.{Product, Quotient, Series, Power, Shift, Substitution}
use Rattle.model.specs.Header.{span, stored}
use Rattle.model.specs.Faults.{sound_var, header_fault}
use Rattle.model.specs.Word.{header_of, fault_of, good_word, fields, word_of}
use Rattle.model.specs.Places.{strides, offset, index, inside}
use Rattle.model.specs.Cap.{min_cap, lower_cap}
use Rattle.model.specs.Limits.{min_limit, min_degrees_p1, cut_to, max_shape, sum_shape}
use Rattle.model.specs.Announced.{single, paired, announced}
use Rattle.model.specs.Refusals.{answer_by, read_by, leaves, written}
use Rattle.model.specs.Gates.{announced_one, announced_pair, good_total, tail_gate, in_gate, work_gate, pair_gate}
use Rattle.model.specs.Poly.{cut}
use Rattle.model.specs.Readings.{sum_to}
use Rattle.model.specs.Tail.{tail_of, tail_answer}
use Rattle.model.specs.Linear.{zeros_but, linear_in, line_of, linear_from}
use Rattle.model.specs.Add.{join_at, joined, joined_block}
use Rattle.model.specs.General.{line, alone, product_at, general}
use Rattle.model.specs.Product.{grown, raised_at, raised, linear_product, shortcut, product_of, multiplied, product_poly, product_answer, product_out}
use Rattle.model.specs.Quotient.{taken, lessened, quotient_at, recurred, quotient_shape, quotient_of, divided, quotient_poly, quotient_answer, quotient_out}
use Rattle.model.specs.Series.{exp_row, exp_rows, log_next, log_gathered, log_row, log_rows, series_shape, exp_of, log_of}
use Rattle.model.specs.Series.{exp_poly, log_poly, exp_answer, exp_out, log_answer, log_out}
use Rattle.model.specs.Shifts.{rows_from, derivative_factor, derivative_poly, row_sum, shift_down_poly, derivative_answer}
use Rattle.model.specs.Shifts.{derivative_out, shift_down_answer, shift_down_out}
use Rattle.model.specs.Power.{squared, power_poly, power_answer, power_out}
use Rattle.model.specs.Substitute.{row_at, powered, horner, substituted, substitute_poly, substitute_answer, substitute_out}

pub record Operand : Type 0 where
  pub word : ℕ
  pub bits : List ℕ

abbrev pub operand : ℕ → List ℕ → Operand
operand w a = record { word = w; bits = a }

-- what is not there: the second operand of an operation on one, and the answer of one that is refused
abbrev pub nothing : Operand
nothing = operand 0 []

pub data Operation : Type 0 where
  -- at k, with the bits of the total
  Tail : ℕ → ℕ → Operation
  Times Over : Operation
  -- with the bits of the head
  Exp Log : ℕ → Operation
  -- in variable 0, by n
  Derivative ShiftDown : ℕ → Operation
  Pow : ℕ → Operation
  -- for variable 0
  Substitute : Operation

pub record Row : Type 0 where
  pub operation : Operation
  pub left : Operand
  pub right : Operand
  pub wanted : Operand

abbrev pub row : Operation → Operand → Operand → Operand → Row
row o a b w = record { operation = o; left = a; right = b; wanted = w }

-- ---- what an operation answers

abbrev pub floats : Operand → List Float
floats o = map (of_bits binary64) o.bits

-- a buffer of n places as it comes
abbrev pub lent : ℕ → List Float
lent n = table n (λ k. nan)

-- the header word, and so many coefficients as it says of the buffer that was written
abbrev pub shown : Answer → List Float → Operand
shown (Ok w) out = operand w (map (to_bits binary64) (take (stored (header_of w)) out))
shown (Err r) out = nothing

abbrev pub number : Reading → Operand
number (Ok x) = operand 0 (to_bits binary64 x ∷ [])
number (Err r) = nothing

-- of an operation that writes a polynomial: h the announced header, whose places and scratch are lent
abbrev pub made : Header → (List Float → List Float → Answer) → (List Float → List Float → List Float) → Operand
made h says leaves = shown (says (lent (stored h)) (lent (8 * stored h))) (leaves (lent (stored h)) (lent (8 * stored h)))

abbrev pub answer : Operation → Operand → Operand → Operand
answer (Tail k total) a b = number (tail_answer a.word (floats a) k (of_bits binary64 total))
answer Times a b =
    made (announced_pair Product a.word b.word)
    (product_answer a.word (floats a) b.word (floats b))
    (product_out a.word (floats a) b.word (floats b))
answer Over a b =
    made (announced_pair Quotient a.word b.word)
    (quotient_answer a.word (floats a) b.word (floats b))
    (quotient_out a.word (floats a) b.word (floats b))
answer (Exp head) a b =
    made (announced_one Series a.word) (exp_answer a.word (floats a) (of_bits binary64 head)) (exp_out a.word (floats a) (of_bits binary64 head))
answer (Log head) a b =
    made (announced_one Series a.word) (log_answer a.word (floats a) (of_bits binary64 head)) (log_out a.word (floats a) (of_bits binary64 head))
answer (Derivative n) a b =
    made (announced_one (Shift 0 n) a.word) (λ out s. derivative_answer a.word (floats a) 0 n out) (λ out s. derivative_out a.word (floats a) 0 n out)
answer (ShiftDown n) a b =
    made (announced_one (Shift 0 n) a.word) (λ out s. shift_down_answer a.word (floats a) 0 n out) (λ out s. shift_down_out a.word (floats a) 0 n out)
answer (Pow e) a b = made (announced_one (Power e) a.word) (power_answer a.word (floats a) e) (power_out a.word (floats a) e)
answer Substitute a b =
    made (announced_pair (Substitution 0) a.word b.word)
    (substitute_answer 0 a.word (floats a) b.word (floats b))
    (substitute_out 0 a.word (floats a) b.word (floats b))

-- ---- the test

unfoldable pub same : List ℕ → List ℕ → Bool
same [] [] = true
same [] (y ∷ ys) = false
same (x ∷ xs) [] = false
same (x ∷ xs) (y ∷ ys) = eqb x y && same xs ys

unfoldable pub equal : Operand → Operand → Bool
equal a b = eqb a.word b.word && same a.bits b.bits

unfoldable pub hold : List Row → Bool
hold [] = true
hold (r ∷ rs) = equal (answer r.operation r.left r.right) r.wanted && hold rs

-- ---- the table

-- one variable of limit and length 2, of limit and length 3; two variables of limit and length 2
abbrev two : List ℕ → Operand
two = operand 0x2082000000000000

abbrev pub three : List ℕ → Operand
three = operand 0x2104000000000000

abbrev pub square : List ℕ → Operand
square = operand 0x4082082000000000

unfoldable pub rows : List Row
rows =
    -- tail of [0.25,0.5,0.25] at 1 with total 1: 0.25
    row (Tail 1 0x3ff0000000000000) (three (0x3fd0000000000000 ∷ 0x3fe0000000000000 ∷ 0x3fd0000000000000 ∷ []))
    nothing
    (operand 0 (0x3fd0000000000000 ∷ []))
    ∷
    -- with total 2 (document 02, W1): 0.625
    row (Tail 1 0x4000000000000000) (three (0x3fd0000000000000 ∷ 0x3fe0000000000000 ∷ 0x3fd0000000000000 ∷ []))
    nothing
    (operand 0 (0x3fe4000000000000 ∷ []))
    ∷
    -- [[1,2],[3,4]] times [[5,6],[7,8]]: [[5,16],[22,60]]
    row Times (square (0x3ff0000000000000 ∷ 0x4000000000000000 ∷ 0x4008000000000000 ∷ 0x4010000000000000 ∷ []))
    (square (0x4014000000000000 ∷ 0x4018000000000000 ∷ 0x401c000000000000 ∷ 0x4020000000000000 ∷ []))
    (square (0x4014000000000000 ∷ 0x4030000000000000 ∷ 0x4036000000000000 ∷ 0x404e000000000000 ∷ []))
    ∷
    -- [[1,2],[3,4]] times [3,2]: [[3,6],[11,16]]
    row Times (square (0x3ff0000000000000 ∷ 0x4000000000000000 ∷ 0x4008000000000000 ∷ 0x4010000000000000 ∷ []))
    (two (0x4008000000000000 ∷ 0x4000000000000000 ∷ []))
    (square (0x4008000000000000 ∷ 0x4018000000000000 ∷ 0x4026000000000000 ∷ 0x4030000000000000 ∷ []))
    ∷
    -- [1] limit 3 over [1,1] limit 3: [1,-1,1]
    row Over (operand 0x2100000000000000 (0x3ff0000000000000 ∷ []))
    (operand 0x2102000000000000 (0x3ff0000000000000 ∷ 0x3ff0000000000000 ∷ []))
    (three (0x3ff0000000000000 ∷ 0xbff0000000000000 ∷ 0x3ff0000000000000 ∷ []))
    ∷
    -- `log` of [1,2,3], head 0: [0,2,1]
    row (Log 0) (three (0x3ff0000000000000 ∷ 0x4000000000000000 ∷ 0x4008000000000000 ∷ []))
    nothing
    (three (0 ∷ 0x4000000000000000 ∷ 0x3ff0000000000000 ∷ []))
    ∷
    -- `exp` of [0,1] limit 3, head 1: [1,1,0.5]
    row (Exp 0x3ff0000000000000) (operand 0x2102000000000000 (0 ∷ 0x3ff0000000000000 ∷ []))
    nothing
    (three (0x3ff0000000000000 ∷ 0x3ff0000000000000 ∷ 0x3fe0000000000000 ∷ []))
    ∷
    -- [2,3,1] shifted by 1: [5,1], limit 2
    row (ShiftDown 1) (three (0x4000000000000000 ∷ 0x4008000000000000 ∷ 0x3ff0000000000000 ∷ []))
    nothing
    (two (0x4014000000000000 ∷ 0x3ff0000000000000 ∷ []))
    ∷
    -- by 2: [6], limit 1
    row (ShiftDown 2) (three (0x4000000000000000 ∷ 0x4008000000000000 ∷ 0x3ff0000000000000 ∷ []))
    nothing
    (operand 0x2000000000000000 (0x4018000000000000 ∷ []))
    ∷
    -- `derivative` of [1,2,3,4], n 1: [2,6,12]
    row (Derivative 1) (operand 0x2186000000000000 (0x3ff0000000000000 ∷ 0x4000000000000000 ∷ 0x4008000000000000 ∷ 0x4010000000000000 ∷ []))
    nothing
    (three (0x4000000000000000 ∷ 0x4018000000000000 ∷ 0x4028000000000000 ∷ []))
    ∷
    -- `pow` 0 of [1,2]: 1, no variables
    row (Pow 0) (two (0x3ff0000000000000 ∷ 0x4000000000000000 ∷ []))
    nothing
    (operand 0 (0x3ff0000000000000 ∷ []))
    ∷
    -- [1,2,3], v replaced by the constant 0: [1], limit 3
    row Substitute (three (0x3ff0000000000000 ∷ 0x4000000000000000 ∷ 0x4008000000000000 ∷ []))
    (operand 0 (0 ∷ []))
    (operand 0x2100000000000000 (0x3ff0000000000000 ∷ []))
    ∷
    -- by [0,2] limit 3: [1,4,12]
    row Substitute (three (0x3ff0000000000000 ∷ 0x4000000000000000 ∷ 0x4008000000000000 ∷ []))
    (operand 0x2102000000000000 (0 ∷ 0x4000000000000000 ∷ []))
    (three (0x3ff0000000000000 ∷ 0x4010000000000000 ∷ 0x4028000000000000 ∷ []))
    ∷
    -- by [1,1] limit 3: [6,8,3]
    row Substitute (three (0x3ff0000000000000 ∷ 0x4000000000000000 ∷ 0x4008000000000000 ∷ []))
    (operand 0x2102000000000000 (0x3ff0000000000000 ∷ 0x3ff0000000000000 ∷ []))
    (three (0x4018000000000000 ∷ 0x4020000000000000 ∷ 0x4008000000000000 ∷ []))
    ∷ []

pub examples-hold : hold rows ≡ true
unfolding hold equal same rows tail_answer tail_gate good_total read_by tail_of sum_to product_answer product_out pair_gate answer_by leaves
    written good_word fault_of header_fault sound_var product_poly multiplied product_of shortcut linear_product
    linear_from line_of linear_in zeros_but grown raised raised_at joined_block joined join_at general product_at line alone
    walk table cut cut_to max_shape sum_shape min_degrees_p1 min_limit min_cap lower_cap announced paired header_of word_of fields strides offset
    index inside span quotient_answer quotient_out quotient_poly divided quotient_of quotient_shape recurred quotient_at
    lessened taken in_gate work_gate single rows_from derivative_factor derivative_poly row_sum shift_down_poly derivative_answer
    derivative_out shift_down_answer shift_down_out squared power_poly power_answer power_out row_at powered horner substituted
    substitute_poly substitute_answer substitute_out exp_answer exp_out exp_poly exp_of series_shape exp_rows exp_row log_answer
    log_out log_poly log_of log_rows log_next log_row log_gathered stack grow of_int of_bits to_bits neg add sub mul div eq lt
examples-hold = refl
