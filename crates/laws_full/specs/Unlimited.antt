-- What the places of a recipe are with no limits anywhere: power series with whole coefficients by the rules of Knuth,
-- Seminumerical Algorithms, 4.7 (document 01, 'Where the result is exact'), each with a length in each variable, past
-- which all its coefficients are zero. Definitions only; nothing here knows a limit.
use Rattle.std.specs.Prelude.{ℕ, zero, suc, ◌+◌, ◌-◌, ◌*◌, max, cond, List, [], ◌∷◌, eqb, length, get_or, set, ℤ, pos, neg_ℤ, ◌*ℤ◌}
use Rattle.lists.specs.Chain.{chain}
use Rattle.lists.specs.Table.{table}
use Rattle.lists.specs.Four.{at, four}
use Rattle.model_recipes.specs.declared.Step.{Step}
use Rattle.model.specs.Header.{ones}
use Rattle.model.specs.Word.{header_of}
use Rattle.model_recipes.specs.Recipe.{Recipe}
use Rattle.model_recipes.specs.Steps.{step_of}
use Rattle.model_textbook.specs.Box.{degree}
use Rattle.model_textbook.specs.Textbook.{Series, series_of, plus, less, times, quotient, power, substitute, shifted}

-- four lengths, one to a variable, of any size; and the coefficients
pub record Value : Type 0 where
  pub lengths : List ℕ
  pub series : Series

abbrev pub value : List ℕ → Series → Value
value n A = record { lengths = n; series = A }

-- ---- series that the textbook's file lacks

unfoldable pub constant : ℕ → Series
unfolding degree
constant c k = cond (eqb (degree k) 0) (pos c) (pos 0)

unfoldable pub negative : Series → Series
negative A k = neg_ℤ (A k)

-- (k + 1) (k + 2) .. (k + n)
unfoldable pub rising : ℕ → ℕ → ℕ
rising k zero = 1
rising k (suc n) = rising k n * (k + suc n)

-- n of m, by Pascal's triangle
unfoldable pub choose : ℕ → ℕ → ℕ
choose m zero = 1
choose zero (suc n) = 0
choose (suc m) (suc n) = choose m n + choose m (suc n)

-- the derivative by v, n times: v to the k + n goes to (k + 1) .. (k + n) times v to the k
unfoldable pub derivative : ℕ → ℕ → Series → Series
unfolding rising
derivative v n A k = pos (rising (at k v) n) *ℤ A (set k v (at k v + n))

-- `taylor_expansion_of_coeff`: the same over n!
unfoldable pub expansion : ℕ → ℕ → Series → Series
unfolding choose
expansion v n A k = pos (choose (at k v + n) n) *ℤ A (set k v (at k v + n))

-- ---- how long results are, in each variable

unfoldable pub sum_lengths : List ℕ → List ℕ → List ℕ
sum_lengths a b = four (λ k. max (at a k) (at b k))

unfoldable pub product_lengths : List ℕ → List ℕ → List ℕ
product_lengths a b = four (λ k. at a k + at b k - 1)

unfoldable pub power_lengths : ℕ → List ℕ → List ℕ
power_lengths e a = four (λ k. e * (at a k - 1) + 1)

unfoldable pub shift_lengths : ℕ → ℕ → List ℕ → List ℕ
shift_lengths v n a = four (λ k. cond (eqb k v) (max 1 (at a k - n)) (at a k))

-- the highest power of b is one less than the length of v in a
unfoldable pub substitution_lengths : ℕ → List ℕ → List ℕ → List ℕ
substitution_lengths v a b = four (λ k. cond (eqb k v) 1 (at a k) + (at a v - 1) * (at b k - 1))

-- a quotient goes on without end: 0, which is no length
abbrev pub endless_lengths : List ℕ
endless_lengths = four (λ k. 0)

-- ---- what each kind makes of its operands, row by row; an exponential has no whole coefficients, and so no row

unfoldable pub results : Step → Value → Value → List Value
results s a b =
    value ones (constant s.n)
    ∷ value a.lengths (negative a.series)
    ∷ value (sum_lengths a.lengths b.lengths) (plus a.series b.series)
    ∷ value (sum_lengths a.lengths b.lengths) (less a.series b.series)
    ∷ value (product_lengths a.lengths b.lengths) (times a.series b.series)
    ∷ value endless_lengths (quotient a.series b.series)
    ∷ value (power_lengths s.n a.lengths) (power a.series s.n)
    ∷ value (shift_lengths s.variable s.n a.lengths) (derivative s.variable s.n a.series)
    ∷ value (shift_lengths s.variable s.n a.lengths) (expansion s.variable s.n a.series)
    ∷ value (shift_lengths s.variable s.n a.lengths) (shifted s.variable s.n a.series)
    ∷ value (substitution_lengths s.variable a.lengths b.lengths)
    (substitute s.variable (at a.lengths s.variable) a.series b.series)
    ∷ []

abbrev pub no_value : Value
no_value = value ones (constant 0)

-- past the places known zero
abbrev pub value_at : List Value → ℕ → Value
value_at vs p = get_or vs p no_value

abbrev pub result_of : Step → Value → Value → Value
result_of s a b = get_or (results s a b) s.kind no_value

-- the step w, vs the values of the places before it
unfoldable pub step_result : ℕ → List Value → Value
step_result w vs = let s = step_of w in result_of s (value_at vs s.a) (value_at vs s.b)

-- ---- all places

-- an input is the polynomial that it stores: w its header word, a the number at each of its places
unfoldable pub input_value : ℕ → (ℕ → ℤ) → Value
input_value w a = value (header_of w).lengths (series_of (header_of w).lengths a)

-- cs the numbers of each input
unfoldable pub input_values : List ℕ → (ℕ → ℕ → ℤ) → List Value
input_values hs cs = table (length hs) (λ i. input_value (get_or hs i 0) (cs i))

unfoldable pub unlimited : Recipe → (ℕ → ℕ → ℤ) → List Value
unlimited it cs = chain step_result (input_values it.headers cs) it.steps
