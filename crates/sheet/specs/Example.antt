-- Document 01's example of a sheet, by computation from the definitions: what is printed for it.
use Rattle.std.specs.Prelude.{◌≡◌, refl, List, [], ◌∷◌, ◌++◌, ℕ}
use Rattle.std.specs.Float.Ieee.{of_bits, to_bits, neg, add, sub, mul, div, eq, of_int}
use Rattle.lists.specs.Chain.{chain}
use Rattle.lists.specs.Every.{every}
use Rattle.lists.specs.Table.{table}
use Rattle.lists.specs.Walk.{walk}
use Rattle.model.specs.Header.{span}
use Rattle.model.specs.Faults.{sound_var, header_fault}
use Rattle.model.specs.Word.{header_of, fault_of, good_word, fields, word_of}
use Rattle.model.specs.Places.{strides, offset, index, inside}
use Rattle.model.specs.Cap.{min_cap, lower_cap}
use Rattle.model.specs.Announced.{single, paired, announced}
use Rattle.model.specs.Shifts.{rows_from, row_sum, shift_down_poly}
use Rattle.model_recipes.specs.Steps.{step_of, rows}
use Rattle.model_recipes.specs.Recipe.{families, announced_step, announced_places, announced_steps, total, largest}
use Rattle.model_recipes.specs.Check.{or_else, right_sizes, formed, step_refusal, inputs_refusal, steps_refusal, check_refusal}
use Rattle.model_recipes.specs.Run.{input_values, operations, step_value, values, step_values, lent_refusal, run_refusal, step_stops, stop_from, run_stop}
use Rattle.model_texts.specs.Hex.{is_digit, digit_of, digit_for, is_line, word_at, hex_line, hex_lines}
use Rattle.model_texts.specs.Printed.{digits, decimal, done_text, refused_text}
use Rattle.model_texts.specs.Sheet.{own_refusal, recipe_refusal, input_count, step_count, sheet_recipe, sheet_edition, spare, sheet_headers}
use Rattle.model_texts.specs.Sheet.{coefficient_count, sheet_coefficients, sheet_steps, headers_refusal, read_refusal}
use Rattle.model_texts.specs.Sheet.{sheet_refusal, last_value, sheet_output}

-- 0101000000000000, 2104000000000000, 4000000000000000, 4008000000000000, 3ff0000000000000, 9000000000004000: [2, 3, 1]
-- shifted down by 1
unfoldable pub example_sheet : List ℕ
example_sheet =
    48 ∷ 49 ∷ 48 ∷ 49 ∷ 48 ∷ 48 ∷ 48 ∷ 48 ∷ 48 ∷ 48 ∷ 48 ∷ 48 ∷ 48 ∷ 48 ∷ 48 ∷ 48 ∷ 10
    ∷ 50 ∷ 49 ∷ 48 ∷ 52 ∷ 48 ∷ 48 ∷ 48 ∷ 48 ∷ 48 ∷ 48 ∷ 48 ∷ 48 ∷ 48 ∷ 48 ∷ 48 ∷ 48 ∷ 10
    ∷ 52 ∷ 48 ∷ 48 ∷ 48 ∷ 48 ∷ 48 ∷ 48 ∷ 48 ∷ 48 ∷ 48 ∷ 48 ∷ 48 ∷ 48 ∷ 48 ∷ 48 ∷ 48 ∷ 10
    ∷ 52 ∷ 48 ∷ 48 ∷ 56 ∷ 48 ∷ 48 ∷ 48 ∷ 48 ∷ 48 ∷ 48 ∷ 48 ∷ 48 ∷ 48 ∷ 48 ∷ 48 ∷ 48 ∷ 10
    ∷ 51 ∷ 102 ∷ 102 ∷ 48 ∷ 48 ∷ 48 ∷ 48 ∷ 48 ∷ 48 ∷ 48 ∷ 48 ∷ 48 ∷ 48 ∷ 48 ∷ 48 ∷ 48 ∷ 10
    ∷ 57 ∷ 48 ∷ 48 ∷ 48 ∷ 48 ∷ 48 ∷ 48 ∷ 48 ∷ 48 ∷ 48 ∷ 48 ∷ 48 ∷ 52 ∷ 48 ∷ 48 ∷ 48 ∷ 10
    ∷ []

-- done 1, 2082000000000000, 4014000000000000, 3ff0000000000000
unfoldable pub example_output : List ℕ
example_output =
    100 ∷ 111 ∷ 110 ∷ 101 ∷ 32 ∷ 49 ∷ 10
    ∷ 50 ∷ 48 ∷ 56 ∷ 50 ∷ 48 ∷ 48 ∷ 48 ∷ 48 ∷ 48 ∷ 48 ∷ 48 ∷ 48 ∷ 48 ∷ 48 ∷ 48 ∷ 48 ∷ 10
    ∷ 52 ∷ 48 ∷ 49 ∷ 52 ∷ 48 ∷ 48 ∷ 48 ∷ 48 ∷ 48 ∷ 48 ∷ 48 ∷ 48 ∷ 48 ∷ 48 ∷ 48 ∷ 48 ∷ 10
    ∷ 51 ∷ 102 ∷ 102 ∷ 48 ∷ 48 ∷ 48 ∷ 48 ∷ 48 ∷ 48 ∷ 48 ∷ 48 ∷ 48 ∷ 48 ∷ 48 ∷ 48 ∷ 48 ∷ 10
    ∷ []

-- refused 8 64 0 0
unfoldable pub refused_output : List ℕ
refused_output = 114 ∷ 101 ∷ 102 ∷ 117 ∷ 115 ∷ 101 ∷ 100 ∷ 32 ∷ 56 ∷ 32 ∷ 54 ∷ 52 ∷ 32 ∷ 48 ∷ 32 ∷ 48 ∷ 10 ∷ []

-- 0101000000000000, 2084000000000000: variable 0 has length 3 under limit 2
unfoldable pub faulty_sheet : List ℕ
faulty_sheet =
    48 ∷ 49 ∷ 48 ∷ 49 ∷ 48 ∷ 48 ∷ 48 ∷ 48 ∷ 48 ∷ 48 ∷ 48 ∷ 48 ∷ 48 ∷ 48 ∷ 48 ∷ 48 ∷ 10
    ∷ 50 ∷ 48 ∷ 56 ∷ 52 ∷ 48 ∷ 48 ∷ 48 ∷ 48 ∷ 48 ∷ 48 ∷ 48 ∷ 48 ∷ 48 ∷ 48 ∷ 48 ∷ 48 ∷ 10
    ∷ []

-- refused 1 0 0 2
unfoldable pub fault_output : List ℕ
fault_output = 114 ∷ 101 ∷ 102 ∷ 117 ∷ 115 ∷ 101 ∷ 100 ∷ 32 ∷ 49 ∷ 32 ∷ 48 ∷ 32 ∷ 48 ∷ 32 ∷ 50 ∷ 10 ∷ []

pub example-holds : sheet_output example_sheet ≡ example_output
unfolding example_sheet example_output sheet_output last_value sheet_refusal read_refusal headers_refusal sheet_steps
    sheet_coefficients coefficient_count sheet_headers sheet_recipe sheet_edition spare step_count input_count recipe_refusal own_refusal refused_text
    done_text decimal digits hex_lines hex_line word_at is_line digit_for digit_of is_digit run_refusal lent_refusal run_stop stop_from step_stops step_values
    values step_value operations input_values check_refusal steps_refusal inputs_refusal step_refusal formed right_sizes
    or_else largest total announced_steps announced_places announced_step families rows step_of shift_down_poly row_sum
    rows_from announced paired single min_cap lower_cap inside index offset strides word_of fields good_word fault_of header_fault sound_var
    header_of span walk table every chain of_bits to_bits neg add sub mul div eq of_int
example-holds = refl

-- one byte more, or none at all
pub byte-behind : sheet_output (example_sheet ++ (10 ∷ [])) ≡ refused_output
unfolding example_sheet refused_output sheet_output last_value sheet_refusal read_refusal headers_refusal sheet_steps
    sheet_coefficients coefficient_count sheet_headers sheet_recipe sheet_edition spare step_count input_count recipe_refusal own_refusal refused_text
    done_text decimal digits hex_lines hex_line word_at is_line digit_for digit_of is_digit run_refusal lent_refusal run_stop stop_from step_stops step_values
    values step_value operations input_values check_refusal steps_refusal inputs_refusal step_refusal formed right_sizes
    or_else largest total announced_steps announced_places announced_step families rows step_of shift_down_poly row_sum
    rows_from announced paired single min_cap lower_cap inside index offset strides word_of fields good_word fault_of header_fault sound_var
    header_of span walk table every chain of_bits to_bits neg add sub mul div eq of_int
byte-behind = refl

pub nothing-there : sheet_output [] ≡ refused_output
unfolding refused_output sheet_output last_value sheet_refusal read_refusal headers_refusal sheet_steps sheet_coefficients
    coefficient_count sheet_headers sheet_recipe sheet_edition spare step_count input_count recipe_refusal own_refusal refused_text done_text decimal
    digits hex_lines hex_line word_at is_line digit_for digit_of is_digit run_refusal lent_refusal run_stop stop_from step_stops step_values values step_value
    operations input_values check_refusal steps_refusal inputs_refusal step_refusal formed right_sizes or_else largest total
    announced_steps announced_places announced_step families rows step_of shift_down_poly row_sum rows_from min_cap lower_cap announced paired
    single inside index offset strides word_of fields good_word fault_of header_fault sound_var header_of span walk table
    every chain of_bits to_bits neg add sub mul div eq of_int
nothing-there = refl

-- the variable and the cause are printed (document 02, W5)
pub fault_printed : sheet_output faulty_sheet ≡ fault_output
unfolding faulty_sheet fault_output sheet_output sheet_refusal read_refusal headers_refusal sheet_edition spare step_count input_count refused_text
    decimal digits word_at is_line digit_of is_digit right_sizes or_else good_word fault_of header_fault sound_var header_of span walk every
fault_printed = refl
