-- Where a full length passes a limit, terms may be lost: for each kind that can, a recipe that the check accepts, whole
-- numbers for its inputs, and a coefficient other than 0 that lies outside the limits of the place. A constant never
-- passes a limit; a negation and the shifts do only where their operand does. And recipes that are whole, though a
-- limit falls, or though a place leaves terms out that the answer is not made of.
use Rattle.std.specs.Prelude.{ℕ, ◌+◌, ◌-◌, Bool, true, false, List, [], ◌∷◌, map, ◌≡◌, refl, length, ℤ, pos, negsuc}
use Rattle.std.proofs.Math.ListN.{get_or}
use Rattle.lists.specs.Grow.{grow}
use Rattle.lists.specs.Chain.{chain}
use Rattle.lists.specs.Table.{table}
use Rattle.model.specs.declared.Header.{Header}
use Rattle.model.specs.Header.{span}
use Rattle.model.specs.Faults.{sound_var, header_fault}
use Rattle.model.specs.Cap.{min_cap, lower_cap}
use Rattle.model.specs.Limits.{min_limit, min_degrees_p1}
use Rattle.model.specs.Places.{strides, offset, inside}
use Rattle.model.specs.Word.{header_of, fault_of, good_word}
use Rattle.model.specs.Announced.{single, paired, announced}
use Rattle.model_recipes.specs.Steps.{step_of, rows}
use Rattle.model_recipes.specs.Recipe.{recipe_of, families, head_at, announced_step, announced_places}
use Rattle.model_recipes.specs.Check.{or_else, right_sizes, formed, step_refusal, inputs_refusal, steps_refusal}
use Rattle.model_recipes.specs.Check.{check_refusal}
use Rattle.model_texts.specs.Full.{sum_full, product_full, quotient_full, power_full, shift_full, substitution_full}
use Rattle.model_texts.specs.Full.{full_after, step_full, full_next, fulls}
use Rattle.model_texts.specs.Whole.{needs_first, needs_second, passes, leaves_out, first_next, firsts, first_out}
use Rattle.model_textbook.specs.Box.{box}
use Rattle.model_textbook.specs.Sum.{sum}
use Rattle.model_textbook.specs.Textbook.{series_of, plus, less, times, quotient, power, substitute, shifted}
use Rattle.laws_full.specs.Unlimited.{Value, negative, derivative, expansion, results, value_at, step_result, input_value}
use Rattle.laws_full.specs.Unlimited.{input_values, unlimited}

record Example : Type 0 where
  -- the inputs' header words and stored numbers, and the step words
  heads : List ℕ
  numbers : List (List ℤ)
  steps : List ℕ
  -- an index of the last place
  index : List ℕ

record Told : Type 0 where
  -- the check's refusal
  refused : ℕ
  -- the first place that leaves terms out, and whether the last one does
  first : ℕ
  out : Bool
  -- whether the index lies inside the limits, and the coefficient there
  shown : Bool
  coefficient : ℤ

module _ (e : Example) where
  abbrev inputs : ℕ
  inputs = length e.heads

  abbrev last : ℕ
  last = inputs + length e.steps - 1

  refusal : ℕ
  unfolding check_refusal right_sizes or_else inputs_refusal steps_refusal step_refusal formed rows good_word fault_of header_fault sound_var
  refusal = (check_refusal (recipe_of 0 e.heads e.steps)).number

  known : List Header
  unfolding announced_places chain announced_step announced single paired min_degrees_p1 min_limit min_cap lower_cap header_of families step_of span
  known = announced_places (recipe_of 0 e.heads e.steps)

  full : List ℕ
  unfolding known fulls grow full_next step_full full_after sum_full product_full quotient_full power_full shift_full substitution_full
  full = fulls known e.steps inputs (last + 1)

  -- what the last place is with no limits anywhere
  answer : Value
  unfolding unlimited step_result results input_values input_value table
  answer = value_at (unlimited (recipe_of 0 e.heads e.steps) (λ i p. get_or (get_or e.numbers i []) p (pos 0))) last

  coefficient : ℤ
  unfolding answer series_of strides offset negative derivative expansion plus less times quotient power substitute shifted box sum
  coefficient = answer.series e.index

  told : Told
  unfolding refusal full coefficient passes leaves_out first_next firsts needs_first needs_second inside
  told =
      record {
        refused = refusal;
        first = first_out known e.steps inputs full last;
        out = leaves_out known full last;
        shown = inside (head_at known last).limits e.index;
        coefficient = coefficient;
      }

-- a coefficient that is not shown; p the first place that leaves terms out
abbrev lost : ℕ → ℤ → Told
lost p c = record { refused = 0; first = p; out = true; shown = false; coefficient = c }

-- one that is shown, and no place leaves terms out
abbrev kept : ℤ → Told
kept c = record { refused = 0; first = 64; out = false; shown = true; coefficient = c }

abbrev example : List ℕ → List (List ℤ) → List ℕ → ℕ → Example
example hs cs ss k = record { heads = hs; numbers = cs; steps = ss; index = k ∷ 0 ∷ 0 ∷ 0 ∷ [] }

-- limit 3 and three numbers, limit 4 and three, limit 2 and two, limit 8 and three, limit 8 and two
abbrev three : ℕ
three = 0x2104000000000000

abbrev three_of_four : ℕ
three_of_four = 0x2184000000000000

abbrev two : ℕ
two = 0x2082000000000000

abbrev three_of_eight : ℕ
three_of_eight = 0x2384000000000000

abbrev two_of_eight : ℕ
two_of_eight = 0x2382000000000000

abbrev ones : List ℤ
ones = pos 1 ∷ pos 1 ∷ pos 1 ∷ []

-- 1, 2, 3, 4 under the limit 4
abbrev four : ℕ
four = 0x2186000000000000

abbrev upward : List ℤ
upward = pos 1 ∷ pos 2 ∷ pos 3 ∷ pos 4 ∷ []

-- the product of two inputs of three numbers and limit 3, and a step after it
abbrev after_product : ℕ → ℕ → Example
after_product w k = example (three ∷ three ∷ []) (ones ∷ ones ∷ []) (0x4001000000000000 ∷ w ∷ []) k

-- what is done, and what is told of it
record Row : Type 0 where
  recipe : Example
  outcome : Told

abbrev row : Example → Told → Row
row e t = record { recipe = e; outcome = t }

losses : List Row
losses =
    -- (1, 1, 1) times (1, 1, 1) is (1, 2, 3, 2, 1)
    row (example (three ∷ three ∷ []) (ones ∷ ones ∷ []) (0x4001000000000000 ∷ []) 4) (lost 2 (pos 1))
    -- (1, 2, 1) to the power of 5 under the limit 4: 176 of 1,024 are shown; the next coefficient is 210
    ∷ row (example (three_of_four ∷ []) ((pos 1 ∷ pos 2 ∷ pos 1 ∷ []) ∷ []) (0x6000000000014000 ∷ []) 4)
    (lost 1 (pos 210))
    -- (1, 1, 1) plus (1, 1) of limit 2, and (1, 1) less (1, 1, 1)
    ∷ row (example (three ∷ two ∷ []) (ones ∷ ones ∷ []) (0x2001000000000000 ∷ []) 2) (lost 2 (pos 1))
    ∷ row (example (two ∷ three ∷ []) (ones ∷ ones ∷ []) (0x3001000000000000 ∷ []) 2) (lost 2 (negsuc 0))
    -- (1, 1, 1) with (1, 1, 1) put for its variable: 1 + B + B^2
    ∷ row (example (three ∷ three ∷ []) (ones ∷ ones ∷ []) (0xa001000000000000 ∷ []) 3) (lost 2 (pos 2))
    -- (2, 3, 1) over (1, -1) under the limit 8: 2, 5, 6, 6, .. without end
    ∷ row
    (example (three_of_eight ∷ two_of_eight ∷ []) ((pos 2 ∷ pos 3 ∷ pos 1 ∷ []) ∷ (pos 1 ∷ negsuc 0 ∷ []) ∷ [])
    (0x5001000000000000 ∷ []) 8) (lost 2 (pos 6))
    -- what takes (1, 2, 3, 2, 1), of which three are shown: the negative; the derivative, the same over 1!, the shift
    -- by 1, each of limit 2
    ∷ row (after_product 0x1080000000000000 4) (lost 2 (negsuc 0))
    ∷ row (after_product 0x7080000000004000 3) (lost 2 (pos 4))
    ∷ row (after_product 0x8080000000004000 3) (lost 2 (pos 4))
    ∷ row (after_product 0x9080000000004000 3) (lost 2 (pos 1))
    ∷ []

wholes : List Row
wholes =
    -- (1, 1, 1) times (1, 1, 1) under the limit 8
    row (example (three_of_eight ∷ three_of_eight ∷ []) (ones ∷ ones ∷ []) (0x4001000000000000 ∷ []) 4) (kept (pos 1))
    -- (1, 2, 3, 4): the derivative, twice; the same over 2!; the shift by 2. The limit falls to 2
    ∷ row (example (four ∷ []) (upward ∷ []) (0x7000000000008000 ∷ []) 1) (kept (pos 24))
    ∷ row (example (four ∷ []) (upward ∷ []) (0x8000000000008000 ∷ []) 1) (kept (pos 12))
    ∷ row (example (four ∷ []) (upward ∷ []) (0x9000000000008000 ∷ []) 0) (kept (pos 6))
    -- the product of (1, 1, 1) and (1, 1, 1) under the limit 3, to the power of 0; and put for a variable that is not
    -- there
    ∷ row (after_product 0x6080000000000000 0) (kept (pos 1))
    ∷ row (after_product 0xa002400000000000 2) (kept (pos 1))
    ∷ []

told_so : map (λ r. told r.recipe) losses ≡ map (λ r. r.outcome) losses
unfolding told losses
told_so = refl

whole_so : map (λ r. told r.recipe) wholes ≡ map (λ r. r.outcome) wholes
unfolding told wholes
whole_so = refl
