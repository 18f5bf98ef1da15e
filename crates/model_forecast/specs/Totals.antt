-- REFERENCE 9.8. The total: the sum of all coefficients of an answer with no limits anywhere, taking each input as the
-- polynomial that it stores. It follows from the inputs' sums by the same steps on numbers, where every step that the
-- answer is made of is a constant, negate, add, subtract, multiply, power or shift_down; steps of other kinds stand in
-- the way. Numbers are floats, and every operation is rounded. It is the total of document 02, W1.
use Rattle.std.specs.Prelude.{ℕ, zero, suc, ◌+◌, ◌-◌, ◌/◌, ◌%◌, min, cond, List, [], ◌∷◌, leb, eqb, length, get_or, Float}
use Rattle.std.specs.Float.{nan, binary64}
use Rattle.std.specs.Float.Ieee.{neg, add, sub, mul}
use Rattle.lists.specs.Chain.{chain}
use Rattle.lists.specs.Table.{table}
use Rattle.model.specs.Header.{stored}
use Rattle.model.specs.Readings.{one_f, sum_to}
use Rattle.model.specs.Constructed.{whole_f}
use Rattle.model_recipes.specs.declared.Step.{Step}
use Rattle.model_recipes.specs.Steps.{step_of}
use Rattle.model_figures.specs.Inputs.{input_header, input_coefficients}

-- what is reached and the base's running square: at most n turns, one for each bit of the exponent left
unfoldable pub squared_number : ℕ → ℕ → Float → Float → Float
squared_number zero e res base = res
squared_number (suc n) e res base =
    let next = cond (eqb (e % 2) 1) (mul binary64 res base) res in
    cond (leb e 1) next (squared_number n (e / 2) next (mul binary64 base base))

-- `pow` on a number: 1 for an exponent of 0, the number itself for 1, else by squaring
unfoldable pub number_power : ℕ → Float → Float
number_power e x = cond (eqb e 0) one_f (cond (eqb e 1) x (squared_number 32 e one_f x))

-- ---- one step; x and y what was found for its operands

-- by kind: the total of its result
unfoldable pub amount_of : Step → Float → Float → Float
amount_of s x y =
    get_or
    (whole_f s.n
    ∷ neg x
    ∷ add binary64 x y
    ∷ sub binary64 x y
    ∷ mul binary64 x y
    ∷ nan
    ∷ number_power s.n x
    ∷ nan
    ∷ nan
    ∷ x
    ∷ [])
    s.kind nan

-- By kind: the first place that stands in the way, 64 for none; p the step's own place. A power of 0 is made of
-- nothing.
unfoldable pub bar_of : Step → ℕ → ℕ → ℕ → ℕ
bar_of s p x y =
    get_or (64 ∷ x ∷ min x y ∷ min x y ∷ min x y ∷ p ∷ cond (eqb s.n 0) 64 x ∷ p ∷ p ∷ x ∷ []) s.kind p

-- ---- all places; hs the inputs' header words, cs their coefficients, ss the step words

-- the step w after places whose totals are known
unfoldable pub amount_step : ℕ → List Float → Float
amount_step w xs = let s = step_of w in amount_of s (get_or xs s.a nan) (get_or xs s.b nan)

unfoldable pub bar_step : ℕ → List ℕ → ℕ
bar_step w bs = let s = step_of w in bar_of s (length bs) (get_or bs s.a 64) (get_or bs s.b 64)

-- the sum of the input i, from +0.0 upwards
unfoldable pub input_sum : List ℕ → List Float → ℕ → Float
input_sum hs cs i = sum_to (input_coefficients hs cs i) (stored (input_header hs cs i))

unfoldable pub amounts : List ℕ → List Float → List ℕ → List Float
amounts hs cs ss = chain amount_step (table (length hs) (input_sum hs cs)) ss

unfoldable pub bars : List ℕ → List ℕ → List ℕ
bars hs ss = chain bar_step (table (length hs) (λ i. 64)) ss

-- ---- the answer, the last of all places

abbrev pub last_place : List ℕ → List ℕ → ℕ
last_place hs ss = length hs + length ss - 1

unfoldable pub answer_amount : List ℕ → List Float → List ℕ → Float
answer_amount hs cs ss = get_or (amounts hs cs ss) (last_place hs ss) nan

-- the place that stands in the way of the answer's total, 64 for none: then the total is known
unfoldable pub answer_bar : List ℕ → List ℕ → ℕ
answer_bar hs ss = get_or (bars hs ss) (last_place hs ss) 64
